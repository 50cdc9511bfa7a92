-- The slots of one device within all slots: how long they are, and what they hold where those of one device are replaced.
-- Assumes nothing.
use mathlib.Core.Path.{◌≡◌, sym, ap, ◌∙◌}
use mathlib.Core.List.{List, ◌++◌}
use mathlib.Core.Logic.{⊎_elim}
use Prim.Native.Nat.{ℕ, ◌+◌, ◌-◌, ◌*◌, ◌≤◌, ◌<◌}
use native.Mathlib.Omega.{arith}
use lib.ListN.{length, take, drop, length-append, length-drop}
use lib.Seq.{length-take-le, take_at, drop_at, drop-drop, take-add, take-take}
use Rattle.lists.proofs.Cases.{le_or_lt}
use Rattle.queues.specs.Queues.{slots_length, slots_of, with_slots}

-- a part from the first to behind the last slot of a device
pub part_is : (slots : List ℕ) (device : ℕ) → take (104 * device + 104 - 104 * device) (drop (104 * device) slots) ≡ slots_of slots device
part_is slots device =
    let long : 104 * device + 104 - 104 * device ≡ 104 = omega arith in
    ap (λ (k : ℕ). take k (drop (104 * device) slots)) long

pub slots_length_lem : (slots : List ℕ) (device : ℕ) → 104 * device + 104 ≤ length slots → length (slots_of slots device) ≡ slots_length
slots_length_lem slots device h = length-take-le 104 (drop (104 * device) slots) (omega (arith, length-drop (104 * device) slots))

-- a part by its end
pub part_of : (l : List ℕ) (m n : ℕ) → m + n ≤ length l → drop m (take (m + n) l) ≡ take n (drop m l)
part_of l m n h = ap (drop m) (take-add m n l) ∙ drop_at (take m l) (take n (drop m l)) m (length-take-le m l (omega arith))

module _ (slots new : List ℕ) (device : ℕ) (inside : 104 * device + 104 ≤ length slots) (long : length new ≡ slots_length) where
  front_length : length (take (104 * device) slots) ≡ 104 * device
  front_length = length-take-le (104 * device) slots (omega arith)

  front : take (104 * device) (with_slots slots device new) ≡ take (104 * device) slots
  front = take_at (take (104 * device) slots) (new ++ drop 104 (drop (104 * device) slots)) (104 * device) front_length

  from_here : drop (104 * device) (with_slots slots device new) ≡ new ++ drop 104 (drop (104 * device) slots)
  from_here = drop_at (take (104 * device) slots) (new ++ drop 104 (drop (104 * device) slots)) (104 * device) front_length

  behind : drop (104 * device + 104) (with_slots slots device new) ≡ drop (104 * device + 104) slots
  behind =
      sym (drop-drop 104 (104 * device) (with_slots slots device new))
      ∙ ap (drop 104) from_here
      ∙ drop_at new (drop 104 (drop (104 * device) slots)) 104 long
      ∙ drop-drop 104 (104 * device) slots

  pub with_length : length (with_slots slots device new) ≡ length slots
  with_length =
      length-append (take (104 * device) slots) (new ++ drop 104 (drop (104 * device) slots))
      ∙ omega (arith, front_length, length-append new (drop 104 (drop (104 * device) slots)), length-drop 104 (drop (104 * device) slots), length-drop (104 * device) slots)

  -- the device has the new ones
  pub own_slots : slots_of (with_slots slots device new) device ≡ new
  own_slots = ap (take 104) from_here ∙ take_at new (drop 104 (drop (104 * device) slots)) 104 long

  before_slots : (other : ℕ) → other < device → slots_of (with_slots slots device new) other ≡ slots_of slots other
  before_slots other lt =
      sym (part_of (with_slots slots device new) (104 * other) 104 (omega (arith, with_length)))
      ∙ ap (drop (104 * other))
      (sym (take-take (104 * other + 104) (104 * device) (with_slots slots device new) (omega arith))
      ∙ ap (take (104 * other + 104)) front
      ∙ take-take (104 * other + 104) (104 * device) slots (omega arith))
      ∙ part_of slots (104 * other) 104 (omega arith)

  behind_slots : (other : ℕ) → device < other → slots_of (with_slots slots device new) other ≡ slots_of slots other
  behind_slots other lt =
      let more = 104 * other - (104 * device + 104) in
      let place : 104 * device + 104 + more ≡ 104 * other = omega arith in
      ap (take 104)
      (ap (λ (k : ℕ). drop k (with_slots slots device new)) (sym place)
      ∙ sym (drop-drop more (104 * device + 104) (with_slots slots device new))
      ∙ ap (drop more) behind
      ∙ drop-drop more (104 * device + 104) slots
      ∙ ap (λ (k : ℕ). drop k slots) place)

  -- .. and every other keeps its own
  pub other_slots : (other : ℕ) → (other ≡ device → ⊥) → slots_of (with_slots slots device new) other ≡ slots_of slots other
  other_slots other apart = ⊎_elim (λ le. let lt : other < device = omega arith in before_slots other lt) (behind_slots other) (le_or_lt other device)
