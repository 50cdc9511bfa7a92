-- Calls on events look at no mark: with the same devices they give the same.
-- Assumes nothing.
use Rattle.std.specs.Prelude.{Result, Ok, Err}
use Rattle.refusal.specs.declared.Refusal.{Refusal}
use Rattle.eventrequests.specs.declared.EventRequest.{EventRequest}
use mathlib.Core.Path.{◌≡◌, refl, sym, ap, ◌∙◌}
use mathlib.Core.Bool.{Bool, true}
use mathlib.Core.List.{List}
use Prim.Native.Nat.{ℕ}
use lib.ListN.{length}
use Rattle.guard.specs.Guard.{guard}
use Rattle.table.specs.Table.{Table, marked, valid}
use Rattle.queues.specs.Queues.{Queues, Queued, valid_queues}
use Rattle.newevents.specs.Event.{add_call}
use Rattle.polls.specs.Poll.{sent_by, poll_heard, poll}
use Rattle.polls.specs.Calls.{poll_room, polling, poll_reading, poll_behind, poll_call}
use Rattle.eventsequence.proofs.ScansKeep.{SameDevices}

-- with other marks
module _ (t : Table) (marks : List ℕ) (v : valid t ≡ true) (again : valid (marked t marks) ≡ true) (q : Queues) where
  valid_marked : valid_queues (marked t marks) q ≡ valid_queues t q
  unfolding valid_queues
  valid_marked = rw (again, v)

  add_marked : (id : ℕ) (e : Queued) → add_call (marked t marks) q id e ≡ add_call t q id e
  unfolding add_call
  add_marked id e = rw valid_marked

  reading_marked : (read : Result EventRequest Refusal) (buffer : List ℕ) → poll_reading read buffer (marked t marks) q ≡ poll_reading read buffer t q
  unfolding polling poll poll_heard sent_by
  reading_marked (Ok request) buffer = refl
  reading_marked (Err why) buffer = refl

  behind_marked : (g : Result (Unit {0}) Refusal) (read : Result EventRequest Refusal) (buffer : List ℕ) → poll_behind g read buffer (marked t marks) q ≡ poll_behind g read buffer t q
  behind_marked (Ok tt) read buffer = reading_marked read buffer
  behind_marked (Err why) read buffer = refl

  poll_marked : (read : Result EventRequest Refusal) (buffer : List ℕ) → poll_call read buffer (marked t marks) q ≡ poll_call read buffer t q
  unfolding poll_call
  poll_marked read buffer =
      behind_marked (guard poll_room (length buffer) (valid_queues (marked t marks) q)) read buffer
      ∙ ap (λ (b : Bool). poll_behind (guard poll_room (length buffer) b) read buffer t q) valid_marked

-- with the same devices
module _ (t now : Table) (v : valid t ≡ true) (same : SameDevices t now) (q : Queues) where
  as_marked : valid (marked t now.marks) ≡ true
  as_marked = ap valid (sym same.columns_stay) ∙ same.right

  pub valid_same : valid_queues now q ≡ valid_queues t q
  valid_same = ap (λ (x : Table). valid_queues x q) same.columns_stay ∙ valid_marked t now.marks v as_marked q

  pub add_same : (id : ℕ) (e : Queued) → add_call now q id e ≡ add_call t q id e
  add_same id e = ap (λ (x : Table). add_call x q id e) same.columns_stay ∙ add_marked t now.marks v as_marked q id e

  pub poll_same : (read : Result EventRequest Refusal) (buffer : List ℕ) → poll_call read buffer now q ≡ poll_call read buffer t q
  poll_same read buffer = ap (λ (x : Table). poll_call read buffer x q) same.columns_stay ∙ poll_marked t now.marks v as_marked q read buffer
