-- Laws of the oldest events, slot by slot: any urgent one, the length that their slots give, and a queue that loses some.
-- Assumes nothing.
use mathlib.Core.Path.{◌≡◌, refl, sym, ap, ap₂, ◌∙◌}
use mathlib.Core.Bool.{true, ◌&&◌}
use mathlib.Core.List.{List}
use Prim.Native.Nat.{ℕ, zero, suc, ◌+◌, ◌-◌, ◌*◌, ◌<◌}
use native.Mathlib.Nat.{add-zero}
use native.Mathlib.Omega.{arith}
use lib.Dec.{leb, ltb}
use lib.ListN.{get_or, take, drop}
use lib.Seq.{get_or-drop, get_or-take, drop-drop}
use borrow.Author.Tests.{eq-eqb, ne_eqb}
use Rattle.lists.specs.Choice.{pick}
use Rattle.lists.proofs.Cases.{both_second, either_first, either_second}
use Rattle.queues.specs.Queues.{queued_from, slots_right, most_data, slot_length}
use Rattle.oldest.specs.Oldest.{some_urgent, marker_of, wire_length}
use Rattle.queues.proofs.SlotsRight.{further}

-- ---- the marker

-- the marker of some events
pub marker_some : (n : ℕ) (slots : List ℕ) → 0 < n → marker_of (queued_from n slots) ≡ pick (some_urgent (queued_from n slots)) 0 1
unfolding marker_of queued_from
marker_some zero slots some = let z : ⊥ = omega arith in absurd z
marker_some (suc n) slots some = refl

module _ (slots : List ℕ) (at : ℕ) where
  first_byte : get_or (take 13 (drop at slots)) 0 0 ≡ get_or slots at 0
  first_byte = get_or-take 13 (drop at slots) 0 0 (omega arith) ∙ get_or-drop at slots 0 0 ∙ ap (λ (k : ℕ). get_or slots k 0) (add-zero at)

  pub urgent_here : (n : ℕ) → 0 < n → get_or slots at 0 ≡ 1 → some_urgent (queued_from n (drop at slots)) ≡ true
  unfolding some_urgent queued_from
  urgent_here zero some one = let z : ⊥ = omega arith in absurd z
  urgent_here (suc n) some one =
      sym (either_first (some_urgent (queued_from n (drop 13 (drop at slots)))) (eq-eqb (get_or (take 13 (drop at slots)) 0 0) 1 (first_byte ∙ one)))

  pub urgent_later : (n : ℕ) → 0 < n → (get_or slots at 0 ≡ 1 → ⊥) → some_urgent (queued_from (n - 1) (drop (at + 13) slots)) ≡ some_urgent (queued_from n (drop at slots))
  unfolding some_urgent queued_from
  urgent_later zero some other = let z : ⊥ = omega arith in absurd z
  urgent_later (suc n) some other =
      let one_less : suc n - 1 ≡ n = omega arith in
      ap₂ (λ (k : ℕ) (l : List ℕ). some_urgent (queued_from k l)) one_less (sym (drop-drop 13 at slots))
      ∙ sym (either_second (some_urgent (queued_from n (drop 13 (drop at slots)))) (ne_eqb (get_or (take 13 (drop at slots)) 0 0) 1 (λ one. other (sym first_byte ∙ one))))

  -- ---- the length on the wire

  pub length_later : (n : ℕ) → 0 < n → wire_length n (drop at slots) ≡ 4 + get_or slots (at + 1) 0 + wire_length (n - 1) (drop (at + 13) slots)
  unfolding wire_length
  length_later zero some = let z : ⊥ = omega arith in absurd z
  length_later (suc n) some =
      let one_less : n ≡ suc n - 1 = omega arith in
      ap₂ (λ (x y : ℕ). 4 + x + y) (get_or-drop at slots 1 0) (ap₂ wire_length one_less (drop-drop 13 at slots))

-- ---- some dropped

pub events_dropped : (k n : ℕ) (slots : List ℕ) → queued_from n (drop (13 * k) slots) ≡ drop k (queued_from (k + n) slots)
unfolding queued_from
events_dropped zero n slots =
    let all : 0 + n ≡ n = omega arith in
    sym (ap (λ (m : ℕ). queued_from m slots) all)
events_dropped (suc k) n slots =
    let more : suc k + n ≡ suc (k + n) = omega arith in
    ap (queued_from n) (further k slots) ∙ events_dropped k n (drop 13 slots) ∙ sym (ap (λ (m : ℕ). drop (suc k) (queued_from m slots)) more)

pub right_dropped : (k n : ℕ) (slots : List ℕ) → slots_right (k + n) slots ≡ true → slots_right n (drop (13 * k) slots) ≡ true
unfolding slots_right
right_dropped zero n slots right =
    let all : n ≡ 0 + n = omega arith in
    ap (λ (m : ℕ). slots_right m slots) all ∙ right
right_dropped (suc k) n slots right =
    let more : suc (k + n) ≡ suc k + n = omega arith in
    let right' : slots_right (suc (k + n)) slots ≡ true = ap (λ (m : ℕ). slots_right m slots) more ∙ right in
    let rest = both_second (ltb (get_or slots 0 0) 2) (leb (get_or slots 1 0) most_data && slots_right (k + n) (drop slot_length slots)) right' in
    ap (slots_right n) (further k slots) ∙ right_dropped k n (drop 13 slots) (both_second (leb (get_or slots 1 0) most_data) (slots_right (k + n) (drop slot_length slots)) rest)
