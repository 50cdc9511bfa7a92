-- Rule D16, as one claim about any list of calls on one table with its queues: new events, polls and the calls of a scan, in any
-- order, refused ones included. No event is lost, doubled or out of order, polls are answered by whom they should be, and scans and
-- events do not disturb each other. Each field has beside it what it says. The proof is in proofs/Kept.antt; nothing here needs it
-- to be read.
-- Assumes nothing.
use Rattle.std.specs.Prelude.{◌≡◌, Bool, true, false, List, [], ◌++◌, map, ℕ, suc, ◌+◌, ◌*◌, ◌≤◌, ◌<◌, ltb, length, get_or, take, Option, Some, None, Result, Ok, Err}
use Rattle.lists.specs.Choice.{pick}
use Rattle.lists.specs.Starting.{starting}
use Rattle.refusal.specs.Number.{queue_full, at_place}
use Rattle.refusal.specs.declared.Refusal.{Refusal}
use Rattle.arbitration.specs.Contest.{dominant_windows, contending}
use Rattle.arbitration.specs.Smallest.{zero_bits}
use Rattle.table.specs.Table.{devices}
use Rattle.events.specs.Events.{events_bytes, walked}
use Rattle.eventrequests.specs.declared.EventRequest.{EventRequest}
use Rattle.queues.specs.Queues.{Queued, flag_of, last_of, queue, valid_queues}
use Rattle.oldest.specs.Oldest.{marker_of}
use Rattle.newevents.specs.Event.{add_call}
use Rattle.polls.specs.Poll.{event_of, contends, poll_windows, poll_keys, Heard, silence, nothing, packet, after_confirming, poll_heard}
use Rattle.packets.specs.Reading.{read_events}
use Rattle.packets.specs.declared.EventsRead.TheVariants.{Packet, Nothing}
use Rattle.polls.specs.Calls.{heard_bytes, polled_as, Polling, poll_refusing, poll_call}
use Rattle.sequence.specs.Calls.{after, history, since_start, refusal_in, short_or}
use Rattle.sequence.specs.Sequence.{Holds}
use Rattle.eventsequence.specs.Calls.{AnyCall, State, after_all, scans_of, events_of, Ledger, opening, enter_confirmed, ledger}

-- ---- one device

-- its id, and the queue that is left to it once a poll made now has confirmed what it names
abbrev pub id_of : State → ℕ → ℕ
id_of now device = get_or now.table.addresses device 0

abbrev pub queue_met : EventRequest → State → ℕ → List Queued
queue_met request now device = queue (after_confirming request now.table now.queues) device

-- what that poll hears, how many windows are dominant in its contest, and how many bytes events have on the wire
abbrev pub heard_next : EventRequest → State → Heard
heard_next request now = poll_heard request now.table (after_confirming request now.table now.queues)

abbrev pub dominant_next : EventRequest → State → ℕ
dominant_next request now =
    dominant_windows poll_windows (contending poll_windows (poll_keys request now.table.addresses (after_confirming request now.table now.queues)))

abbrev pub on_wire : List Queued → ℕ
on_wire events = length (events_bytes (map event_of events))

-- a packet that a poll made now would hear from the device
pub record PacketDue (device : ℕ) (now : State) (l : Ledger) (request : EventRequest) (dominant flag queued : ℕ) (events : List Queued) : Type 0 where
  -- its flag is the one due, which a confirmation in the same poll has turned
  pub flag_due : flag ≡ (enter_confirmed (id_of now device) request l).flag
  -- it says how many events are queued, those that it lists included
  pub count : queued ≡ length (queue_met request now device)
  -- it lists the oldest of them, at least one
  pub oldest : events ≡ take (length events) (queue_met request now device)
  pub some : 0 < length events
  -- and as many as fit: no more bytes than were asked for, and one event more would be too long
  pub fits : on_wire events ≤ request.most
  pub full : length events < length (queue_met request now device) → request.most < on_wire (take (suc (length events)) (queue_met request now device))
  -- before it stands an FF for each window that was dominant
  pub fill_due : dominant ≡ dominant_next request now
  -- read by the event reader, it is that, with those FF counted, and a walk over its events finds them
  pub read : read_events (heard_bytes (packet dominant (id_of now device) flag queued events)) ≡ Ok (Packet dominant (id_of now device) flag queued (length events) (dominant + 6) (on_wire events))
  pub walk : walked (length events) (heard_bytes (packet dominant (id_of now device) flag queued events)) (dominant + 6) ≡ map event_of events

-- what was queued before and since is what confirmation dropped, in order, followed by what is queued now
pub record Kept (device : ℕ) (before now : State) (l : Ledger) : Type 0 where
  pub in_order : queue before.queues device ++ l.queued ≡ l.dropped ++ queue now.queues device
  -- the packet that is not confirmed is a beginning of the queue, so what it lists is still there, and only it is dropped by its
  -- confirmation
  pub packet_first : take (last_of now.queues device) (queue now.queues device) ≡ l.packet
  pub packet_long : last_of now.queues device ≡ length l.packet
  pub flag_stands : flag_of now.queues device ≡ l.flag
  -- of a poll made next: what it confirms is all that it drops, and the packet that it would hear from the device
  pub confirms : (request : EventRequest)
      → queue before.queues device ++ l.queued ≡ (enter_confirmed (id_of now device) request l).dropped ++ queue_met request now device
  pub sends : (request : EventRequest) (dominant flag queued : ℕ) (events : List Queued)
      → heard_next request now ≡ packet dominant (id_of now device) flag queued events → PacketDue device now l request dominant flag queued events
  -- an event made next for it, with no more than 8 data bytes, is taken exactly where fewer than 8 are queued, so that room freed
  -- by confirmation is used again; else it is refused with 18
  pub accepts : (e : Queued) → length e.event.payload ≤ 8
      → (add_call now.table now.queues (id_of now device) e).added ≡ pick (ltb (length (queue now.queues device)) 8) (Ok tt) (Err (at_place queue_full 0))

-- ---- who answers a poll made now

-- the device contends: its id is not below the smallest asked for, and its oldest event, if it has any, fits the length asked; and
-- its key, the marker of its queue above its id
abbrev pub contends_next : EventRequest → State → ℕ → Bool
contends_next request now device = contends request (id_of now device) (queue_met request now device)

abbrev pub key_next : EventRequest → State → ℕ → ℕ
key_next request now device = marker_of (queue_met request now device) * 256 + id_of now device

-- the device answers: it contends, and every other one that does has a larger key (no two are equal, as ids differ)
pub record Answers (request : EventRequest) (now : State) (device : ℕ) : Type 0 where
  pub there : device < devices now.table
  pub in_contest : contends_next request now device ≡ true
  pub smallest : (other : ℕ) → other < devices now.table → contends_next request now other ≡ true → (other ≡ device → ⊥) → key_next request now device < key_next request now other
  -- what is heard is from it, behind an FF for each 0 among the 12 bits of its key: with nothing queued, that nobody has events
  pub idle : queue_met request now device ≡ [] → heard_next request now ≡ nothing (zero_bits 12 (key_next request now device)) (id_of now device)
  -- else a packet, of which `PacketDue` says what it holds
  pub busy : 0 < length (queue_met request now device)
      → (flag : ℕ) × (queued : ℕ) × (events : List Queued) × (heard_next request now ≡ packet (zero_bits 12 (key_next request now device)) (id_of now device) flag queued events)

pub record Answered (request : EventRequest) (now : State) : Type 0 where
  -- where some device contends, one answers
  pub by_one : (device : ℕ) → device < devices now.table → contends_next request now device ≡ true → (winner : ℕ) × Answers request now winner
  -- silence is heard where no device contends, and only there
  pub by_none : ((device : ℕ) → device < devices now.table → contends_next request now device ≡ false) → heard_next request now ≡ silence
  pub silent : heard_next request now ≡ silence → (device : ℕ) → device < devices now.table → contends_next request now device ≡ false
  -- that nobody has events (0x12) is heard only where no device that contends has any
  pub nothing_queued : (dominant id : ℕ) → heard_next request now ≡ nothing dominant id
      → (device : ℕ) → device < devices now.table → contends_next request now device ≡ true → queue_met request now device ≡ []
  -- and is read as that, behind an FF for each window that was dominant, which are counted
  pub nothing_read : (dominant id : ℕ) → heard_next request now ≡ nothing dominant id → (dominant ≡ dominant_next request now) × (read_events (heard_bytes (nothing dominant id)) ≡ Ok (Nothing dominant))

-- ---- what a poll made now gives

-- its result, with the number of its FF, and the lent buffer tell what is heard; bytes behind the answer stay
pub record Told (request : EventRequest) (now : State) (buffer : List ℕ) (given : Polling) : Type 0 where
  pub result : given.polled ≡ Ok (polled_as (heard_next request now))
  pub holds : given.buffer ≡ starting (heard_bytes (heard_next request now)) buffer

-- why a poll is refused, if it is, with table and queues valid: its buffer is under 116 bytes, or the reader refused its frame
abbrev pub poll_refusal : Result EventRequest Refusal → List ℕ → Option Refusal
poll_refusal read buffer = short_or 116 (length buffer) (refusal_in read)

-- ---- all of them, and the scans

pub record AllKept (before : State) (calls : List AnyCall) : Type 0 where
  -- table and queues stay valid
  pub valid_again : valid_queues (after_all calls before).table (after_all calls before).queues ≡ true
  -- the table is what the calls of the scans make of it, as if there had been no others: they make no request, and change no column
  -- of it
  pub table_is : (after_all calls before).table ≡ after (scans_of calls) before.table
  -- so demand 3 holds of them
  pub demand_3 : 0 < devices before.table
      → Holds before.table (after_all calls before).table (history (scans_of calls) before.table) (since_start 0 (history (scans_of calls) before.table))
  -- the queues are what new events and polls make of them, as if there had been no scan
  pub queues_are : (after_all calls before).queues ≡ (after_all (events_of calls) before).queues
  -- and so is every answer: a new event or a poll made next gives what it would give with the table as it was at the beginning
  pub adds_alike : (id : ℕ) (e : Queued) → add_call (after_all calls before).table (after_all calls before).queues id e ≡ add_call before.table (after_all calls before).queues id e
  pub polls_alike : (read : Result EventRequest Refusal) (buffer : List ℕ)
      → poll_call read buffer (after_all calls before).table (after_all calls before).queues ≡ poll_call read buffer before.table (after_all calls before).queues
  -- a poll made next is refused for these reasons alone, and then changes nothing; else it tells what is heard
  pub refused : (read : Result EventRequest Refusal) (buffer : List ℕ) (why : Refusal) → poll_refusal read buffer ≡ Some why
      → poll_call read buffer (after_all calls before).table (after_all calls before).queues ≡ poll_refusing why buffer (after_all calls before).queues
  pub told : (request : EventRequest) (buffer : List ℕ) → poll_refusal (Ok request) buffer ≡ None
      → Told request (after_all calls before) buffer (poll_call (Ok request) buffer (after_all calls before).table (after_all calls before).queues)
  -- who answers a poll made next, whatever it asks
  pub answered : (request : EventRequest) → Answered request (after_all calls before)
  -- each device
  pub kept : (device : ℕ) → device < devices before.table
      → Kept device before (after_all calls before) (ledger (id_of before device) calls before (opening before.queues device))

-- for valid table and queues of any number of devices, and any list of calls
abbrev pub EventsKept : Type 0
EventsKept = (before : State) → valid_queues before.table before.queues ≡ true → (calls : List AnyCall) → AllKept before calls
