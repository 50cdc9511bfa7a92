-- Devices that are new: nothing is queued for them, they have sent nothing, and their first packet has flag 0. Proved in
-- proofs/Fresh.antt.
-- Assumes nothing.
use Rattle.std.specs.Prelude.{◌≡◌, true, List, [], ℕ, ◌*◌, ◌<◌, length, replicate}
use Rattle.lists.specs.Tests.{all, different}
use Rattle.table.specs.Table.{Table, devices, valid}
use Rattle.events.specs.Events.{is_id}
use Rattle.eventrequests.specs.declared.EventRequest.{EventRequest}
use Rattle.queues.specs.Queues.{Queues, Queued, queue_columns, slots_length, queue, valid_queues}
use Rattle.polls.specs.Poll.{packet}
use Rattle.eventsequence.specs.Calls.{AnyCall, State, after_all, opening, enter_confirmed, ledger}
use Rattle.eventsequence.specs.Sequence.{id_of, heard_next}

-- the queues of so many: flags, last packets and counts 0; what stands in the slots does not matter
abbrev pub fresh_queues : ℕ → List ℕ → Queues
fresh_queues n slots = queue_columns (replicate n 0) (replicate n 0) (replicate n 0) slots

abbrev pub fresh : Table → List ℕ → State
fresh t slots = record { table = t; queues = fresh_queues (devices t) slots }

pub record Fresh (t : Table) (slots : List ℕ) : Type 0 where
  -- they are valid, so that all of `EventsKept` holds from there on
  pub valid_first : valid_queues t (fresh_queues (devices t) slots) ≡ true
  -- no device has anything queued
  pub empty : (device : ℕ) → device < devices t → queue (fresh_queues (devices t) slots) device ≡ []
  -- after any calls, a packet that a poll made next would hear from a device has flag 0 as long as no packet of that device was
  -- confirmed; so its first packet has flag 0, and every one that repeats it
  pub first_flag : (calls : List AnyCall) (device : ℕ) → device < devices t → (request : EventRequest) (dominant flag queued : ℕ) (events : List Queued)
      → heard_next request (after_all calls (fresh t slots)) ≡ packet dominant (id_of (after_all calls (fresh t slots)) device) flag queued events
      → (enter_confirmed (id_of (after_all calls (fresh t slots)) device) request
      (ledger (id_of (fresh t slots) device) calls (fresh t slots) (opening (fresh_queues (devices t) slots) device))).dropped ≡ []
      → flag ≡ 0

-- for a valid table whose addresses are ids that differ, and any slots of 104 bytes a device
abbrev pub FreshDevices : Type 0
FreshDevices =
    (t : Table) (slots : List ℕ) → valid t ≡ true → all is_id t.addresses ≡ true → different t.addresses ≡ true
    → length slots ≡ slots_length * devices t → Fresh t slots
