-- The length of the oldest events on the wire is what their slots say: `SameLength`.
-- Assumes nothing.
use mathlib.Core.Path.{◌≡◌, refl, sym, ap₂, ◌∙◌}
use mathlib.Core.Bool.{true, ◌&&◌}
use mathlib.Core.List.{List}
use Prim.Native.Nat.{ℕ, zero, suc, ◌+◌, ◌*◌, ◌≤◌}
use native.Mathlib.Omega.{arith}
use lib.Dec.{leb, ltb}
use lib.ListN.{length, get_or, take, drop, length-drop}
use lib.Seq.{get_or-take, length-take-le}
use borrow.Author.Tests.{leb-true}
use Rattle.lists.proofs.Cases.{both_first, both_second}
use Rattle.queues.specs.Queues.{queued_in, queued_from, slots_of, count_of, slots_right, most_data, slot_length}
use Rattle.oldest.specs.Oldest.{wire_size, wire_length, SameLength}
use Rattle.queues.proofs.Meaning.{tested}
use Rattle.queues.proofs.Replaced.{count_few, slots_right_lem, slots_long}

-- the data of an event in a slot are as many bytes as its length says
pub data_long : (slots : List ℕ) → 13 ≤ length slots → get_or slots 1 0 ≤ 8 → length (queued_in (take 13 slots)).event.payload ≡ get_or slots 1 0
data_long slots enough few =
    let says : get_or (take 13 slots) 1 0 ≡ get_or slots 1 0 = get_or-take 13 slots 1 0 (omega arith) in
    let room : length (drop 5 (take 13 slots)) ≡ 8 = length-drop 5 (take 13 slots) ∙ omega (arith, length-take-le 13 slots enough) in
    length-take-le (get_or (take 13 slots) 1 0) (drop 5 (take 13 slots)) (omega arith) ∙ says

slots_say : (k n : ℕ) (slots : List ℕ) → k ≤ n → slots_right n slots ≡ true → 13 * n ≤ length slots → wire_length k slots ≡ wire_size (take k (queued_from n slots))
unfolding wire_length wire_size queued_from slots_right
slots_say zero n slots fewer right enough = refl
slots_say (suc k) zero slots fewer right enough = let z : ⊥ = omega arith in absurd z
slots_say (suc k) (suc n) slots fewer right enough =
    let rest = both_second (ltb (get_or slots 0 0) 2) (leb (get_or slots 1 0) most_data && slots_right n (drop slot_length slots)) right in
    let few = leb-true (get_or slots 1 0) most_data (both_first (leb (get_or slots 1 0) most_data) (slots_right n (drop slot_length slots)) rest) in
    ap₂ (λ (x y : ℕ). 4 + x + y) (sym (data_long slots (omega arith) few))
    (slots_say k n (drop 13 slots) (omega arith) (both_second (leb (get_or slots 1 0) most_data) (slots_right n (drop slot_length slots)) rest) (omega (arith, length-drop 13 slots)))

pub same_length : SameLength
same_length t q device k v there fewer =
    let g = tested t q v in
    slots_say k (count_of q device) (slots_of q.slots device) fewer (slots_right_lem t q g device there)
    (omega (arith, count_few t q g device there, slots_long t q g device there))
