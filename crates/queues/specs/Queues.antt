-- Rule D10: the event queues of the devices, as a value of which four columns beside the table are one view; the events that
-- they hold; and when they are valid.
-- Assumes nothing.
use Rattle.std.specs.Prelude.{ℕ, zero, suc, ◌+◌, ◌*◌, Bool, true, ◌&&◌, List, [], ◌∷◌, ◌++◌, leb, ltb, eqb, length, get_or, take, drop}
use Rattle.lists.specs.Choice.{pick}
use Rattle.lists.specs.Tests.{all, different, position}
use Rattle.events.specs.Events.{is_id, Event, event_bytes}
use Rattle.table.specs.Table.{Table, devices, valid}

-- of each device the flag of its next packet, how many events its last packet had (0 where none waits for its confirmation), how
-- many events are queued, and the slots that hold them
pub record Queues : Type 0 where
  pub flags : List ℕ
  pub lasts : List ℕ
  pub counts : List ℕ
  pub slots : List ℕ

-- the queues that four columns hold
abbrev pub queue_columns : List ℕ → List ℕ → List ℕ → List ℕ → Queues
queue_columns flags lasts counts slots = record { flags = flags; lasts = lasts; counts = counts; slots = slots }

-- of the device at a place: its flag, how many events its last packet had, and how many it has queued
abbrev pub flag_of : Queues → ℕ → ℕ
flag_of q device = get_or q.flags device 0

abbrev pub last_of : Queues → ℕ → ℕ
last_of q device = get_or q.lasts device 0

abbrev pub count_of : Queues → ℕ → ℕ
count_of q device = get_or q.counts device 0

-- the place of the device with an id; as many as there are devices where there is none
abbrev pub device_of : Table → ℕ → ℕ
device_of t id = position id t.addresses

-- ---- slots

-- a queue has no more events than this, an event no more data bytes than this
abbrev pub most_queued : ℕ
most_queued = 8

abbrev pub most_data : ℕ
most_data = 8

-- a slot has 13 bytes: 1 where the event is urgent and 0 where not, then the event as it goes on the wire, with room for 8 data
-- bytes
abbrev pub slot_length : ℕ
slot_length = 13

-- each device has 8 slots
abbrev pub slots_length : ℕ
slots_length = 104

-- the slots of one device
abbrev pub slots_of : List ℕ → ℕ → List ℕ
slots_of slots device = take slots_length (drop (slots_length * device) slots)

-- all slots with those of one device replaced
abbrev pub with_slots : List ℕ → ℕ → List ℕ → List ℕ
with_slots slots device new =
    take (slots_length * device) slots ++ (new ++ drop slots_length (drop (slots_length * device) slots))

-- ---- queued events

-- an event, and whether it is urgent
pub record Queued : Type 0 where
  pub urgent : Bool
  pub event : Event

-- as its slot begins
abbrev pub slot_bytes : Queued → List ℕ
slot_bytes e = pick e.urgent 1 0 ∷ event_bytes e.event

-- the one in a slot
abbrev pub queued_in : List ℕ → Queued
queued_in slot =
    record {
      urgent = eqb (get_or slot 0 0) 1;
      event = record { kind = get_or slot 2 0; identifier = get_or slot 3 0 * 256 + get_or slot 4 0; payload = take (get_or slot 1 0) (drop 5 slot) };
    }

-- so many events, from the first slot on
unfoldable pub queued_from : ℕ → List ℕ → List Queued
queued_from zero slots = []
queued_from (suc n) slots = queued_in (take slot_length slots) ∷ queued_from n (drop slot_length slots)

-- the queue of a device, its oldest event first
abbrev pub queue : Queues → ℕ → List Queued
queue q device = queued_from (count_of q device) (slots_of q.slots device)

-- ---- validity

abbrev pub flag_right : ℕ → Bool
flag_right flag = ltb flag 2

-- of so many slots, from the first on: each is urgent or not, and has data for which it has room; those behind may hold anything
unfoldable pub slots_right : ℕ → List ℕ → Bool
slots_right zero slots = true
slots_right (suc n) slots = ltb (get_or slots 0 0) 2 && (leb (get_or slots 1 0) most_data && slots_right n (drop slot_length slots))

-- a device's queue: not too many events, a last packet of no more than are queued, and right slots
unfoldable pub queue_right : ℕ → ℕ → List ℕ → Bool
queue_right last count slots = leb count most_queued && (leb last count && slots_right count slots)

-- a test of each number below another
unfoldable pub each_below : (ℕ → Bool) → ℕ → Bool
each_below test zero = true
each_below test (suc n) = test n && each_below test n

-- the queue of the device at this place
abbrev pub device_right : List ℕ → List ℕ → List ℕ → ℕ → Bool
device_right lasts counts slots device = queue_right (get_or lasts device 0) (get_or counts device 0) (slots_of slots device)

-- what number 2 asks in every call on events: a valid table (rule D1), ids that are right and differ, columns of as many
-- entries as there are devices, right flags, and right queues
unfoldable pub valid_queues : Table → Queues → Bool
valid_queues t q =
    valid t
    && (all is_id t.addresses
    && (different t.addresses
    && (eqb (length q.flags) (devices t)
    && (eqb (length q.lasts) (devices t)
    && (eqb (length q.counts) (devices t)
    && (eqb (length q.slots) (slots_length * devices t)
    && (all flag_right q.flags
    && each_below (device_right q.lasts q.counts q.slots) (devices t))))))))
