-- The oldest events dropped: both columns as they are afterwards.
-- Assumes nothing.
use mathlib.Core.Path.{◌≡◌, sym, ap, ap₂, ◌∙◌}
use mathlib.Core.Bool.{Bool, true}
use mathlib.Core.List.{List, ◌++◌}
use Prim.Native.Nat.{ℕ, ◌+◌, ◌-◌, ◌*◌, ◌/◌, ◌≤◌, ◌<◌}
use native.Mathlib.Omega.{arith}
use lib.ListN.{length, get_or, take, drop, set}
use borrow.Rule.Slice.PartMut.{put_mid}
use borrow.Author.Tests.{lt-ltb, le-leb}
use Rattle.lists.specs.Choice.{pick}
use Rattle.lists.specs.Starting.{starting}
use Rattle.lists.proofs.Cases.{both}
use Rattle.queues.specs.Queues.{slots_length, slots_of, with_slots}
use Rattle.oldest.specs.Oldest.{moved_up, can_drop, counts_without, slots_without}
use Rattle.queues.proofs.SlotsOf.{part_is}

module _ (device k : ℕ) (counts slots : List ℕ) where
  -- the slots were written through a part of all
  pub dropped_is : (after : List ℕ) → device < length counts → device < length slots / slots_length → k ≤ get_or counts device 0
      → after ≡ starting (drop (13 * k) (take (104 * device + 104 - 104 * device) (drop (104 * device) slots))) (take (104 * device + 104 - 104 * device) (drop (104 * device) slots))
      → (set counts device (get_or counts device 0 - k) ≡ counts_without device k counts slots)
      × (put_mid (104 * device) (104 * device + 104 - 104 * device) slots after ≡ slots_without device k counts slots)
  unfolding counts_without slots_without
  dropped_is after there has enough wrote =
      let can : can_drop device k counts slots ≡ true =
      both (lt-ltb device (length counts) there) (both (lt-ltb device (length slots / slots_length) has) (le-leb k (get_or counts device 0) enough)) in
      let long : 104 * device + 104 - 104 * device ≡ 104 = omega arith in (
        ap (λ (b : Bool). pick b (set counts device (get_or counts device 0 - k)) counts) (sym can),
        ap₂ (λ (m : ℕ) (l : List ℕ). take (104 * device) slots ++ (l ++ drop m (drop (104 * device) slots))) long
            (wrote ∙ ap (λ (l : List ℕ). starting (drop (13 * k) l) l) (part_is slots device))
            ∙ ap (λ (b : Bool). pick b (with_slots slots device (moved_up k (slots_of slots device))) slots) (sym can),
      )
