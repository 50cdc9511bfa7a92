-- Rule D11: a new event for the device with an id.
-- Assumes nothing.
use Rattle.refusal.specs.declared.Refusal.{Refusal}
use Rattle.std.specs.Prelude.{◌≡◌, ℕ, ◌+◌, ◌*◌, ◌<◌, Bool, true, List, [], ◌∷◌, ◌++◌, leb, ltb, length, get_or, take, drop, set, Result, Ok, Err}
use Rattle.lists.specs.Choice.{pick}
use Rattle.lists.specs.Starting.{starting}
use Rattle.refusal.specs.Number.{table_not_valid, frame_length, queue_full, at_place}
use Rattle.refusal.specs.Numbers.{Numbers, accepted_with, refused_with}
use Rattle.table.specs.Table.{Table, devices}
use Rattle.queues.specs.Queues.{Queues, Queued, slot_bytes, slot_length, slots_of, with_slots, count_of, device_of, queue, most_queued, most_data, valid_queues}

-- an event to queue, made of its parts
abbrev pub event : Bool → ℕ → ℕ → List ℕ → Queued
event urgent kind identifier payload = record { urgent = urgent; event = record { kind = kind; identifier = identifier; payload = payload } }

-- the slots of one device with an event put into the slot behind so many; the bytes behind its data keep what they held
abbrev pub put_slot : ℕ → Queued → List ℕ → List ℕ
put_slot count e slots = take (slot_length * count) slots ++ starting (slot_bytes e) (drop (slot_length * count) slots)

-- the queues with one event more for the device at this place: flag and last packet stay
unfoldable pub queued_more : Queues → ℕ → Queued → Queues
queued_more q device e =
    record {
      flags = q.flags;
      lasts = q.lasts;
      counts = set q.counts device (count_of q device + 1);
      slots = with_slots q.slots device (put_slot (count_of q device) e (slots_of q.slots device));
    }

-- what the call gives: its answer, and the queues afterwards
pub record Adding : Type 0 where
  pub added : Result (Unit {0}) Refusal
  pub queues : Queues

-- the answer as numbers: what was done has no values
abbrev pub added_numbers : Result (Unit {0}) Refusal → Numbers
added_numbers (Ok tt) = accepted_with []
added_numbers (Err why) = refused_with why

-- a refusal leaves the queues as they were
abbrev pub add_refusing : ℕ → Queues → Adding
add_refusing number q = record { added = Err (at_place number 0); queues = q }

-- number 2, then 13 where there is no such device or too much data, then 18 where its queue is full
unfoldable pub add_call : Table → Queues → ℕ → Queued → Adding
add_call t q id e =
    pick (valid_queues t q)
    (pick (ltb (device_of t id) (devices t))
    (pick (leb (length e.event.payload) most_data)
    (pick (ltb (count_of q (device_of t id)) most_queued)
    (record { added = Ok tt; queues = queued_more q (device_of t id) e })
    (add_refusing queue_full q))
    (add_refusing frame_length q))
    (add_refusing frame_length q))
    (add_refusing table_not_valid q)

-- what the call is promised to give: its result, which shows the answer (as itself, or as a caller of another language takes
-- it), and what the two columns that it may write hold afterwards
pub record Adds {A : Type 0} (shows : Result (Unit {0}) Refusal → A) (given : Adding) (r : A) (counts slots : List ℕ) : Type 0 where
  pub result : r ≡ shows given.added
  pub counts_are : counts ≡ given.queues.counts
  pub slots_are : slots ≡ given.queues.slots

-- ---- what an accepted event does

-- the queues are valid again, the event stands behind those that its device had queued, and the other devices' queues, all
-- flags and all last packets are as they were
pub record OneMore (t : Table) (device : ℕ) (e : Queued) (before after : Queues) : Type 0 where
  pub valid_again : valid_queues t after ≡ true
  pub queued : queue after device ≡ queue before device ++ e ∷ []
  pub others : (other : ℕ) → (other ≡ device → ⊥) → queue after other ≡ queue before other
  pub flags_stay : after.flags ≡ before.flags
  pub lasts_stay : after.lasts ≡ before.lasts

-- the device that it is for has the id. Proved in proofs/NewEvent.antt
abbrev pub NewEvent : Type 0
NewEvent =
    (t : Table) (q : Queues) (id : ℕ) (e : Queued) → (add_call t q id e).added ≡ Ok tt
    → (device_of t id < devices t) × (get_or t.addresses (device_of t id) 0 ≡ id) × OneMore t (device_of t id) e q (add_call t q id e).queues
