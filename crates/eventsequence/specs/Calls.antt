-- Calls on one table with its queues, made one after the other: new events, polls and the calls of a scan, in any order. What rule
-- D16 speaks of.
-- Assumes nothing.
use Rattle.std.specs.Prelude.{ℕ, Bool, ◌&&◌, List, [], ◌∷◌, ◌++◌, ltb, eqb, length, take, Result, Ok, Err}
use Rattle.lists.specs.Choice.{pick}
use Rattle.refusal.specs.declared.Refusal.{Refusal}
use Rattle.table.specs.Table.{Table}
use Rattle.eventrequests.specs.declared.EventRequest.{EventRequest}
use Rattle.queues.specs.Queues.{Queues, Queued, flag_of, last_of, queue}
use Rattle.newevents.specs.Event.{add_call}
use Rattle.polls.specs.Poll.{Heard, silence, nothing, packet, PollTurn}
use Rattle.polls.specs.Calls.{poll_call}
use Rattle.sequence.specs.Calls.{Call, step, table_of}

-- ---- a call, with all that it is lent but table and queues; no event, frame, cap or buffer is ruled out

pub data AnyCall : Type 0 where
  -- a new event for the device with this id
  add : ℕ → Queued → AnyCall
  -- a poll as it was read, decoded or from a raw frame, and the answer buffer
  poll : Result EventRequest Refusal → List ℕ → AnyCall
  -- a call of demand 3
  scan : Call → AnyCall

-- what the calls are made on
pub record State : Type 0 where
  pub table : Table
  pub queues : Queues

-- by the definitions that the contracts of the calls promise their results by: a new event and a poll change queues alone, the
-- calls of a scan the table alone
abbrev pub stepped : AnyCall → State → State
stepped (add id e) s = record { table = s.table; queues = (add_call s.table s.queues id e).queues }
stepped (poll read buffer) s = record { table = s.table; queues = (poll_call read buffer s.table s.queues).queues }
stepped (scan call) s = record { table = table_of (step call s.table); queues = s.queues }

unfoldable pub after_all : List AnyCall → State → State
after_all [] s = s
after_all (call ∷ calls) s = after_all calls (stepped call s)

-- the calls of a scan alone, and all others
unfoldable pub scans_of : List AnyCall → List Call
scans_of [] = []
scans_of (add id e ∷ calls) = scans_of calls
scans_of (poll read buffer ∷ calls) = scans_of calls
scans_of (scan call ∷ calls) = call ∷ scans_of calls

unfoldable pub events_of : List AnyCall → List AnyCall
events_of [] = []
events_of (add id e ∷ calls) = add id e ∷ events_of calls
events_of (poll read buffer ∷ calls) = poll read buffer ∷ events_of calls
events_of (scan call ∷ calls) = events_of calls

-- ---- a device's events, as they are told by what was asked and heard alone

-- the flag of its next packet; the events of its last packet, as long as that is not confirmed; all events that were queued since
-- the beginning, and all that confirmation dropped, each in their order
pub record Ledger : Type 0 where
  pub flag : ℕ
  pub packet : List Queued
  pub queued : List Queued
  pub dropped : List Queued

-- at the beginning
abbrev pub opening : Queues → ℕ → Ledger
opening q device = record { flag = flag_of q device; packet = take (last_of q device) (queue q device); queued = []; dropped = [] }

-- a new event that is not refused
abbrev pub enter_new : Result (Unit {0}) Refusal → Queued → Ledger → Ledger
enter_new (Ok tt) e l = record { flag = l.flag; packet = l.packet; queued = l.queued ++ e ∷ []; dropped = l.dropped }
enter_new (Err why) e l = l

-- a poll names the device, by its id, with the flag of the packet that is not confirmed
abbrev pub names_packet : ℕ → EventRequest → Ledger → Bool
names_packet id request l = eqb request.confirmed id && (eqb request.flag l.flag && ltb 0 (length l.packet))

-- .. then exactly that packet is dropped and is no more, and the flag turns from 0 to 1 or from 1 to 0
abbrev pub packet_dropped : Ledger → Ledger
packet_dropped l = record { flag = pick (eqb l.flag 0) 1 0; packet = []; queued = l.queued; dropped = l.dropped ++ l.packet }

-- no other poll drops anything
abbrev pub enter_confirmed : ℕ → EventRequest → Ledger → Ledger
enter_confirmed id request l = pick (names_packet id request l) (packet_dropped l) l

-- a packet that is sent takes the place of the last one
abbrev pub packet_sent : List Queued → Ledger → Ledger
packet_sent events l = record { flag = l.flag; packet = events; queued = l.queued; dropped = l.dropped }

-- .. where it is heard from the device; no other packet matters to it
abbrev pub enter_heard : ℕ → Heard → Ledger → Ledger
enter_heard id silence l = l
enter_heard id (nothing dominant sender) l = l
enter_heard id (packet dominant sender flag queued events) l = pick (eqb sender id) (packet_sent events l) l

-- the polls that a call made, which is none where it was refused
unfoldable pub enter_polls : ℕ → List PollTurn → Ledger → Ledger
enter_polls id [] l = l
enter_polls id (turn ∷ turns) l = enter_polls id turns (enter_heard id turn.heard (enter_confirmed id turn.request l))

abbrev pub enter : ℕ → AnyCall → State → Ledger → Ledger
enter id (add to e) s l = pick (eqb to id) (enter_new (add_call s.table s.queues to e).added e l) l
enter id (poll read buffer) s l = enter_polls id (poll_call read buffer s.table s.queues).turns l
enter id (scan call) s l = l

unfoldable pub ledger : ℕ → List AnyCall → State → Ledger → Ledger
ledger id [] s l = l
ledger id (call ∷ calls) s l = ledger id calls (stepped call s) (enter id call s l)
