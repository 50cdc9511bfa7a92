-- A call for a poll: queues stay valid, and every device's ledger follows its queue.
-- Assumes nothing.
use Rattle.std.specs.Prelude.{Result, Ok, Err}
use Rattle.refusal.specs.declared.Refusal.{Refusal}
use Rattle.eventrequests.specs.declared.EventRequest.{EventRequest}
use mathlib.Core.Path.{◌≡◌}
use mathlib.Core.Bool.{true}
use mathlib.Core.List.{List}
use Prim.Native.Nat.{ℕ, ◌<◌}
use lib.ListN.{length, get_or}
use Rattle.guard.specs.Guard.{guard}
use Rattle.table.specs.Table.{Table, devices}
use Rattle.queues.specs.Queues.{Queues, Queued, valid_queues}
use Rattle.polls.specs.Poll.{after_confirming}
use Rattle.polls.specs.Poll as polls
use Rattle.polls.specs.Calls.{poll_room, polling, poll_reading, poll_behind, poll_call}
use Rattle.eventsequence.specs.Calls.{Ledger, enter_polls}
use Rattle.eventsequence.proofs.Follows.{FollowsIn}
use Rattle.eventsequence.proofs.Confirming.{confirming_valid, confirming_follows}
use Rattle.eventsequence.proofs.Sending.{sending_valid, sending_follows}

module _ (t : Table) (q : Queues) (v : valid_queues t q ≡ true) (buffer : List ℕ) where
  reading_valid : (read : Result EventRequest Refusal) → valid_queues t (poll_reading read buffer t q).queues ≡ true
  unfolding polling polls.poll
  reading_valid (Ok request) = sending_valid request t (after_confirming request t q) (confirming_valid request t q v)
  reading_valid (Err why) = v

  behind_valid : (g : Result (Unit {0}) Refusal) (read : Result EventRequest Refusal) → valid_queues t (poll_behind g read buffer t q).queues ≡ true
  behind_valid (Ok tt) read = reading_valid read
  behind_valid (Err why) read = v

  pub polling_valid : (read : Result EventRequest Refusal) → valid_queues t (poll_call read buffer t q).queues ≡ true
  unfolding poll_call
  polling_valid read = behind_valid (guard poll_room (length buffer) (valid_queues t q)) read

  module _ (device : ℕ) (there : device < devices t) {old : List Queued} {l : Ledger} (f : FollowsIn old device q l) where
    abbrev id : ℕ
    id = get_or t.addresses device 0

    reading_follows : (read : Result EventRequest Refusal) → FollowsIn old device (poll_reading read buffer t q).queues (enter_polls id (poll_reading read buffer t q).turns l)
    unfolding polling polls.poll enter_polls
    reading_follows (Ok request) =
        sending_follows request t (after_confirming request t q) (confirming_valid request t q v) device there
        (confirming_follows request t q v device there f)
    reading_follows (Err why) = f

    behind_follows : (g : Result (Unit {0}) Refusal) (read : Result EventRequest Refusal) → FollowsIn old device (poll_behind g read buffer t q).queues (enter_polls id (poll_behind g read buffer t q).turns l)
    unfolding enter_polls
    behind_follows (Ok tt) read = reading_follows read
    behind_follows (Err why) read = f

    pub polling_follows : (read : Result EventRequest Refusal) → FollowsIn old device (poll_call read buffer t q).queues (enter_polls id (poll_call read buffer t q).turns l)
    unfolding poll_call
    polling_follows read = behind_follows (guard poll_room (length buffer) (valid_queues t q)) read
