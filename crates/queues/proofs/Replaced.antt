-- What a device has in valid queues, and what replacing its slots and its count does: it has the new queue, every other one keeps
-- its own, and all is valid again where the new queue is right.
-- Assumes nothing.
use mathlib.Core.Path.{◌≡◌, sym, ap, ap₂, ◌∙◌, subst}
use mathlib.Core.Bool.{true}
use mathlib.Core.List.{List}
use mathlib.Core.Logic.{⊎_elim}
use Prim.Native.Nat.{ℕ, ◌+◌, ◌*◌, ◌≤◌, ◌<◌}
use native.Mathlib.Omega.{arith}
use lib.ListN.{length, get_or, set, length-set}
use lib.Seq.{get_or-set_same, get_or-set_other}
use Rattle.lists.specs.Tests.{all}
use Rattle.lists.proofs.Cases.{same_or_not}
use Rattle.table.specs.Table.{Table, devices}
use Rattle.queues.specs.Queues.{Queues, queue_columns, last_of, count_of, slots_length, slots_of, with_slots, queued_from, queue, flag_right, slots_right, queue_right, device_right}
use Rattle.queues.proofs.Below.{below_at, below_from}
use Rattle.queues.proofs.SlotsOf.{slots_length_lem, with_length, own_slots, other_slots}
use Rattle.queues.proofs.SlotsRight.{queue_few, queue_sent, queue_slots}
use Rattle.queues.proofs.Meaning.{Tested}

-- ---- in valid queues

module _ (t : Table) (q : Queues) (g : Tested t q) (device : ℕ) (there : device < devices t) where
  pub queue_right_lem : device_right q.lasts q.counts q.slots device ≡ true
  queue_right_lem = below_at (device_right q.lasts q.counts q.slots) (devices t) g.queues_right device there

  pub count_few : count_of q device ≤ 8
  count_few = queue_few (last_of q device) (count_of q device) (slots_of q.slots device) queue_right_lem

  pub last_sent : last_of q device ≤ count_of q device
  last_sent = queue_sent (last_of q device) (count_of q device) (slots_of q.slots device) queue_right_lem

  pub slots_right_lem : slots_right (count_of q device) (slots_of q.slots device) ≡ true
  slots_right_lem = queue_slots (last_of q device) (count_of q device) (slots_of q.slots device) queue_right_lem

  pub slots_inside : 104 * device + 104 ≤ length q.slots
  slots_inside = omega (arith, g.slots_long)

  pub slots_long : length (slots_of q.slots device) ≡ slots_length
  slots_long = slots_length_lem q.slots device slots_inside

-- ---- with another count and other slots of one device

module _ (t : Table) (q : Queues) (g : Tested t q) (device : ℕ) (there : device < devices t) (count : ℕ) (new : List ℕ) (long : length new ≡ slots_length) where
  abbrev counts : List ℕ
  counts = set q.counts device count

  abbrev slots : List ℕ
  slots = with_slots q.slots device new

  inside : 104 * device + 104 ≤ length q.slots
  inside = slots_inside t q g device there

  own_count : get_or counts device 0 ≡ count
  own_count = get_or-set_same q.counts device count 0 (omega (arith, g.counts_long))

  other_count : (other : ℕ) → (other ≡ device → ⊥) → get_or counts other 0 ≡ count_of q other
  other_count other apart = get_or-set_other q.counts device other count 0 apart

  pub own_queue : queued_from (get_or counts device 0) (slots_of slots device) ≡ queued_from count new
  own_queue = ap₂ queued_from own_count (own_slots q.slots new device inside long)

  pub other_queue : (other : ℕ) → (other ≡ device → ⊥) → queued_from (get_or counts other 0) (slots_of slots other) ≡ queue q other
  other_queue other apart = ap₂ queued_from (other_count other apart) (other_slots q.slots new device inside long other apart)

  -- flags and last packets may change too, of this device alone
  module _ (flags lasts : List ℕ) (lasts_stay : (other : ℕ) → (other ≡ device → ⊥) → get_or lasts other 0 ≡ last_of q other)
      (right : queue_right (get_or lasts device 0) count new ≡ true) where
    each_right : (other : ℕ) → other < devices t → device_right lasts counts slots other ≡ true
    each_right other h =
        ⊎_elim
        (λ same. subst (λ (d : ℕ). device_right lasts counts slots d ≡ true) (sym same)
        (ap₂ (queue_right (get_or lasts device 0)) own_count (own_slots q.slots new device inside long) ∙ right))
        (λ apart. ap (λ (last : ℕ). queue_right last (get_or counts other 0) (slots_of slots other)) (lasts_stay other apart)
        ∙ ap₂ (queue_right (last_of q other)) (other_count other apart) (other_slots q.slots new device inside long other apart)
        ∙ queue_right_lem t q g other h)
        (same_or_not other device)

    pub tested_again : length flags ≡ devices t → all flag_right flags ≡ true → length lasts ≡ devices t → Tested t (queue_columns flags lasts counts slots)
    tested_again flags_long flags_right lasts_long =
        record {
          table_valid = g.table_valid;
          ids_right = g.ids_right;
          ids_differ = g.ids_differ;
          flags_long = flags_long;
          lasts_long = lasts_long;
          counts_long = length-set q.counts device count ∙ g.counts_long;
          slots_long = with_length q.slots new device inside long ∙ g.slots_long;
          flags_right = flags_right;
          queues_right = below_from (device_right lasts counts slots) (devices t) each_right;
        }
