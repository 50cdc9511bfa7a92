-- Feeding a run, turn after turn: the whole run from the first state comes to what is left of it from this one.
-- Assumes nothing.
use mathlib.Core.Path.{◌≡◌, refl, sym, ap, ◌∙◌, subst}
use mathlib.Core.Bool.{Bool}
use mathlib.Core.List.{List, [], ◌∷◌}
use mathlib.Core.Logic.{⊎_elim}
use Prim.Native.Nat.{ℕ, ◌+◌, ◌-◌, ◌≤◌, ◌<◌, min}
use native.Mathlib.Omega.{arith}
use lib.ListN.{length, get_or, take, drop, length-take, length-drop, drop_of_length-le}
use lib.Seq.{drop-drop, take_all}
use borrow.Author.Tests.{le-leb}
use Rattle.lists.specs.Choice.{pick}
use Rattle.lists.proofs.Cases.{le_or_lt}
use Rattle.lists.proofs.Filling.{drop_next}
use Rattle.exchange.specs.Exchange.{limit}
use Rattle.listening.specs.declared.Listening.{Listening}
use Rattle.listening.specs.declared.Fed.{Fed}
use Rattle.listening.specs.Listening.{nothing_due, hand_room, in_hand, heard, has_answered, hear, after, listened, fed}
use Rattle.feeding.specs.Inner.{Turned}
use Rattle.listening.proofs.Undecided.{hand_size}

-- ---- the loop

pub record Feeding (all : Fed) (run : List ℕ) (s : Listening) (i : ℕ) : Type 0 where
  pub within : i ≤ length run
  pub same : all ≡ after i (listened s (drop i run))
  pub bound : s.start + length (in_hand s) + (length run - i) ≤ limit

module _ (all : Fed) (run : List ℕ) (s : Listening) (i : ℕ) (so_far : Feeding all run s i) where
  -- a turn on what is left, as the code has it: a part up to the end
  pub feeding_more : i < length run → (t : Fed) → Turned s (take (length run - i) (drop i run)) t → Feeding all run t.state (i + t.used)
  feeding_more h t turned_part =
      let turned : Turned s (drop i run) t = subst (λ (l : List ℕ). Turned s l t) (take_all (length run - i) (drop i run) (omega (arith, length-drop i run))) turned_part in
      let rest : length (drop i run) ≡ length run - i = omega (arith, length-drop i run) in
      let x = listened t.state (drop t.used (drop i run)) in
      let sum : i + (t.used + x.used) ≡ i + t.used + x.used = omega arith in
      record {
        within = omega (arith, turned.within);
        same =
            so_far.same ∙ ap (after i) turned.same
            ∙ ap (λ (k : ℕ). record { state = x.state; used = k }) sum
            ∙ ap (λ (l : List ℕ). after (i + t.used) (listened t.state l)) (drop-drop t.used i run);
        bound = omega (arith, so_far.bound, turned.moves, turned.within);
      }

  -- the run is over
  pub feeding_ends : length run ≤ i → record { state = s; used = i } ≡ all
  unfolding listened
  feeding_ends h =
      let none : i ≡ i + 0 = omega arith in
      ap (λ (k : ℕ). record { state = s; used = k }) none ∙ ap (λ (l : List ℕ). after i (listened s l)) (sym (drop_of_length-le run h)) ∙ sym so_far.same

  -- the answer is known
  pub feeding_answered : i < length run → nothing_due ≤ s.due → record { state = s; used = i } ≡ all
  unfolding listened has_answered
  feeding_answered h known =
      let b = get_or run i 0 in
      let bs = drop (i + 1) run in
      let none : i ≡ i + 0 = omega arith in
      ap (λ (k : ℕ). record { state = s; used = k }) none
      ∙ ap (λ (t : Bool). after i (pick t (record { state = s; used = 0 }) (after 1 (listened (hear s b) bs)))) (sym (le-leb nothing_due s.due known))
      ∙ ap (λ (l : List ℕ). after i (listened s l)) (sym (drop_next run i h))
      ∙ sym so_far.same

-- ---- the bytes that are read of a recording

module _ (s : Listening) (size : length s.raw ≡ hand_room) (run : List ℕ) (n used : ℕ) (used_is : used ≡ min limit (s.start + min s.held hand_room))
    (n_is : n ≡ min (limit - used) (length run)) where
  free : limit - heard s ≡ limit - used
  free = ap (λ (k : ℕ). limit - min limit (s.start + k)) (hand_size s size) ∙ ap (λ (k : ℕ). limit - k) (sym used_is)

  read_part : take n run ≡ take (limit - heard s) run
  read_part =
      ap (λ (k : ℕ). take k run) n_is ∙ cut (limit - used) ∙ ap (λ (k : ℕ). take k run) (sym free)
    where
      cut : (k : ℕ) → take (min k (length run)) run ≡ take k run
      cut k =
          ⊎_elim (λ (h : k ≤ length run). let e : min k (length run) ≡ k = omega arith in ap (λ (m : ℕ). take m run) e)
          (λ (h : length run < k). let e : min k (length run) ≡ length run = omega arith in
          ap (λ (m : ℕ). take m run) e ∙ take_all (length run) run (omega arith) ∙ sym (take_all k run (omega arith)))
          (le_or_lt k (length run))

  pub read_long : length (take n run) ≡ n
  read_long = length-take n run ∙ omega (arith, n_is)

  -- where there is a byte to read, all that are in hand were counted
  pub read_from : (n ≡ 0 → ⊥) → used ≡ s.start + length (in_hand s)
  read_from some = omega (arith, hand_size s size)

  pub read_bound : (n ≡ 0 → ⊥) → s.start + length (in_hand s) + n ≤ limit
  read_bound some = omega (arith, hand_size s size)

  pub feeding_all : (r : Fed) → r ≡ listened s (take n run) → r ≡ fed s run
  unfolding fed
  feeding_all r e = e ∙ ap (listened s) read_part

-- no byte, and no byte behind the answer
pub listened_none : (s : Listening) (run : List ℕ) (n : ℕ) → n ≡ 0 → record { state = s; used = 0 } ≡ listened s (take n run)
unfolding listened
listened_none s run n e = ap (λ (k : ℕ). listened s (take k run)) (sym e)

pub listened_answered : (s : Listening) (run : List ℕ) → nothing_due ≤ s.due → record { state = s; used = 0 } ≡ listened s run
unfolding listened has_answered
listened_answered s [] h = refl
listened_answered s (b ∷ bs) h = ap (λ (t : Bool). pick t (record { state = s; used = 0 }) (after 1 (listened (hear s b) bs))) (sym (le-leb nothing_due s.due h))
