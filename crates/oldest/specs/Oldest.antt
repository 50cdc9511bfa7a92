-- What a poll asks of the slots of one device: the marker of its queue, how long its oldest events are on the wire, and the
-- queue without them. Rule D10.
-- Assumes nothing.
use Rattle.std.specs.Prelude.{◌≡◌, ℕ, zero, suc, ◌+◌, ◌-◌, ◌*◌, ◌/◌, ◌≤◌, ◌<◌, Bool, true, false, ◌||◌, ◌&&◌, List, [], ◌∷◌, leb, ltb, length, get_or, take, drop, set}
use Rattle.lists.specs.Choice.{pick}
use Rattle.lists.specs.Starting.{starting}
use Rattle.events.specs.Events.{event_head}
use Rattle.table.specs.Table.{Table, devices}
use Rattle.queues.specs.Queues.{Queues, Queued, slot_length, slots_length, slots_of, with_slots, count_of, queue, valid_queues}

-- ---- the marker

-- whether any event is urgent
unfoldable pub some_urgent : List Queued → Bool
some_urgent [] = false
some_urgent (e ∷ es) = e.urgent || some_urgent es

-- 15 where nothing is queued, 0 where any event is urgent, else 1
unfoldable pub marker_of : List Queued → ℕ
marker_of [] = 15
marker_of (e ∷ es) = pick (some_urgent (e ∷ es)) 0 1

-- ---- the length on the wire

-- an event has a byte each for length and type, two for its identifier, and its data
unfoldable pub wire_size : List Queued → ℕ
wire_size [] = 0
wire_size (e ∷ es) = event_head + length e.event.payload + wire_size es

-- the same by the lengths that so many slots give, from the first on
unfoldable pub wire_length : ℕ → List ℕ → ℕ
wire_length zero slots = 0
wire_length (suc n) slots = event_head + get_or slots 1 0 + wire_length n (drop slot_length slots)

-- of the k oldest events of a device both are one. Proved in proofs/WireLength.antt
abbrev pub SameLength : Type 0
SameLength =
    (t : Table) (q : Queues) (device k : ℕ) → valid_queues t q ≡ true → device < devices t → k ≤ count_of q device
    → wire_length k (slots_of q.slots device) ≡ wire_size (take k (queue q device))

-- ---- the oldest dropped

-- slots without the first so many: those behind move to the start, and the bytes behind them keep what they held
abbrev pub moved_up : ℕ → List ℕ → List ℕ
moved_up k slots = starting (drop (slot_length * k) slots) slots

-- there is such a device with such slots, and it has so many events queued
abbrev pub can_drop : ℕ → ℕ → List ℕ → List ℕ → Bool
can_drop device k counts slots = ltb device (length counts) && (ltb device (length slots / slots_length) && leb k (get_or counts device 0))

-- the two columns without the k oldest events of a device; as they were where it has not so many, or is not there
unfoldable pub counts_without : ℕ → ℕ → List ℕ → List ℕ → List ℕ
counts_without device k counts slots = pick (can_drop device k counts slots) (set counts device (get_or counts device 0 - k)) counts

unfoldable pub slots_without : ℕ → ℕ → List ℕ → List ℕ → List ℕ
slots_without device k counts slots = pick (can_drop device k counts slots) (with_slots slots device (moved_up k (slots_of slots device))) slots

-- the queues without them, with another flag and another last packet of that device
abbrev pub without : ℕ → ℕ → ℕ → ℕ → Queues → Queues
without device k flag last q =
    record {
      flags = set q.flags device flag;
      lasts = set q.lasts device last;
      counts = counts_without device k q.counts q.slots;
      slots = slots_without device k q.counts q.slots;
    }

-- the queue of the device loses its k oldest events, the others' queues are as they were, and all is valid again where the flag
-- is 0 or 1 and the last packet has no more events than are left
pub record Fewer (t : Table) (device k : ℕ) (q : Queues) : Type 0 where
  pub left : (flag last : ℕ) → queue (without device k flag last q) device ≡ drop k (queue q device)
  pub others : (flag last other : ℕ) → (other ≡ device → ⊥) → queue (without device k flag last q) other ≡ queue q other
  pub valid_again : (flag last : ℕ) → flag < 2 → last + k ≤ count_of q device → valid_queues t (without device k flag last q) ≡ true

-- Proved in proofs/Dropping.antt
abbrev pub DropOldest : Type 0
DropOldest = (t : Table) (q : Queues) (device k : ℕ) → valid_queues t q ≡ true → device < devices t → k ≤ count_of q device → Fewer t device k q
