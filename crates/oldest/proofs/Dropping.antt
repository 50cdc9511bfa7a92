-- What dropping the oldest events of a device does: `DropOldest`.
-- Assumes nothing.
use mathlib.Core.Path.{◌≡◌, sym, ap, ap₂, ◌∙◌}
use mathlib.Core.Bool.{Bool, true}
use mathlib.Core.List.{List}
use mathlib.Core.Logic.{⊎_elim}
use Prim.Native.Nat.{ℕ, ◌+◌, ◌-◌, ◌*◌, ◌/◌, ◌≤◌, ◌<◌}
use native.Mathlib.Omega.{arith}
use lib.ListN.{length, get_or, drop, set, length-set, length-drop}
use lib.Seq.{get_or-set_same, get_or-set_other}
use borrow.Author.Tests.{lt-ltb, le-leb}
use Rattle.lists.specs.Choice.{pick}
use Rattle.lists.proofs.All.{all_at, all_from}
use Rattle.lists.proofs.Cases.{same_or_not, both}
use Rattle.lists.proofs.Filling.{length_starting}
use Rattle.table.specs.Table.{Table, devices}
use Rattle.queues.specs.Queues.{Queues, queue_columns, queued_from, slots_length, slots_of, with_slots, count_of, flag_right, slots_right, queue_right, valid_queues}
use Rattle.oldest.specs.Oldest.{moved_up, can_drop, counts_without, slots_without, DropOldest}
use Rattle.queues.proofs.SlotsRight.{slots_front, slots_decide}
use Rattle.queues.proofs.Events.{events_front}
use Rattle.oldest.proofs.OldestLaws.{events_dropped, right_dropped}
use Rattle.queues.proofs.Meaning.{Tested, tested, valid_from}
use Rattle.queues.proofs.Replaced.{count_few, slots_right_lem, slots_long, own_queue, other_queue, tested_again}

-- ---- in the slots of one device

module _ (k n : ℕ) (slots : List ℕ) (fewer : k ≤ n) (few : n ≤ 8) (long : length slots ≡ slots_length) where
  moved_fits : length (drop (13 * k) slots) ≤ length slots
  moved_fits = omega (arith, length-drop (13 * k) slots)

  pub moved_length : length (moved_up k slots) ≡ slots_length
  moved_length = length_starting (drop (13 * k) slots) slots moved_fits ∙ long

  still_there : 13 * (n - k) ≤ length (drop (13 * k) slots)
  still_there = omega (arith, length-drop (13 * k) slots)

  all_of_them : k + (n - k) ≡ n
  all_of_them = omega arith

  pub moved_queue : queued_from (n - k) (moved_up k slots) ≡ drop k (queued_from n slots)
  moved_queue =
      events_front (n - k) (drop (13 * k) slots) (drop (length (drop (13 * k) slots)) slots) still_there
      ∙ events_dropped k (n - k) slots
      ∙ ap (λ (m : ℕ). drop k (queued_from m slots)) all_of_them

  pub moved_right : slots_right n slots ≡ true → slots_right (n - k) (moved_up k slots) ≡ true
  moved_right right =
      slots_front (n - k) (drop (13 * k) slots) (drop (length (drop (13 * k) slots)) slots) still_there
      ∙ right_dropped k (n - k) slots (ap (λ (m : ℕ). slots_right m slots) all_of_them ∙ right)

-- ---- in valid queues

module _ (t : Table) (q : Queues) (device k : ℕ) (g : Tested t q) (there : device < devices t) (enough : k ≤ count_of q device) where
  can : can_drop device k q.counts q.slots ≡ true
  can =
      both (lt-ltb device (length q.counts) (omega (arith, g.counts_long)))
      (both (lt-ltb device (length q.slots / slots_length) (omega (arith, g.slots_long))) (le-leb k (count_of q device) enough))

  abbrev left : ℕ
  left = count_of q device - k

  abbrev new : List ℕ
  new = moved_up k (slots_of q.slots device)

  counts_are : counts_without device k q.counts q.slots ≡ set q.counts device left
  unfolding counts_without
  counts_are = ap (λ (b : Bool). pick b (set q.counts device left) q.counts) can

  slots_are : slots_without device k q.counts q.slots ≡ with_slots q.slots device new
  unfolding slots_without
  slots_are = ap (λ (b : Bool). pick b (with_slots q.slots device new) q.slots) can

  few : count_of q device ≤ 8
  few = count_few t q g device there

  own_long : length (slots_of q.slots device) ≡ slots_length
  own_long = slots_long t q g device there

  new_long : length new ≡ slots_length
  new_long = moved_length k (count_of q device) (slots_of q.slots device) enough few own_long

  -- the queue of any device, by the columns that are written
  queue_is : (other : ℕ)
      → queued_from (get_or (counts_without device k q.counts q.slots) other 0) (slots_of (slots_without device k q.counts q.slots) other)
      ≡ queued_from (get_or (set q.counts device left) other 0) (slots_of (with_slots q.slots device new) other)
  queue_is other = ap₂ (λ (counts slots : List ℕ). queued_from (get_or counts other 0) (slots_of slots other)) counts_are slots_are

  module _ (flag last : ℕ) (flag_low : flag < 2) (sent : last + k ≤ count_of q device) where
    flag_right_lem : (i : ℕ) → i < length (set q.flags device flag) → flag_right (get_or (set q.flags device flag) i 0) ≡ true
    flag_right_lem i h =
        let inside_flags : i < length q.flags = omega (arith, length-set q.flags device flag) in
        ⊎_elim
        (λ same. ap (λ (d : ℕ). flag_right (get_or (set q.flags device flag) d 0)) same
        ∙ ap flag_right (get_or-set_same q.flags device flag 0 (omega (arith, g.flags_long))) ∙ lt-ltb flag 2 flag_low)
        (λ apart. ap flag_right (get_or-set_other q.flags device i flag 0 apart) ∙ all_at flag_right q.flags g.flags_right i inside_flags)
        (same_or_not i device)

    own_right : queue_right (get_or (set q.lasts device last) device 0) left new ≡ true
    own_right =
        ap (λ (l : ℕ). queue_right l left new) (get_or-set_same q.lasts device last 0 (omega (arith, g.lasts_long)))
        ∙ sym (slots_decide last left new (omega (arith, few)) (omega arith)
        (sym (moved_right k (count_of q device) (slots_of q.slots device) enough few own_long (slots_right_lem t q g device there))))

    again : valid_queues t (queue_columns (set q.flags device flag) (set q.lasts device last) (set q.counts device left) (with_slots q.slots device new)) ≡ true
    again =
        let flags = set q.flags device flag in
        let lasts = set q.lasts device last in
        valid_from t (queue_columns flags lasts (set q.counts device left) (with_slots q.slots device new))
        (tested_again t q g device there left new new_long flags lasts
        (λ other apart. get_or-set_other q.lasts device other last 0 apart) own_right
        (length-set q.flags device flag ∙ g.flags_long) (all_from flag_right flags flag_right_lem) (length-set q.lasts device last ∙ g.lasts_long))

pub drop_oldest : DropOldest
drop_oldest t q device k v there enough =
    let g = tested t q v in
    let slots = slots_of q.slots device in
    let left = count_of q device - k in
    let long = new_long t q device k g there enough in
    record {
      left = λ flag last. queue_is t q device k g there enough device
          ∙ own_queue t q g device there left (moved_up k slots) long
          ∙ moved_queue k (count_of q device) slots enough (few t q device k g there enough) (own_long t q device k g there enough);
      others = λ flag last other apart. queue_is t q device k g there enough other ∙ other_queue t q g device there left (moved_up k slots) long other apart;
      valid_again = λ flag last flag_low sent.
          ap₂ (λ (counts slots : List ℕ). valid_queues t (queue_columns (set q.flags device flag) (set q.lasts device last) counts slots))
          (counts_are t q device k g there enough) (slots_are t q device k g there enough)
          ∙ again t q device k g there enough flag last flag_low sent;
    }
