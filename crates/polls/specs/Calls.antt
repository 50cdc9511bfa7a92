-- The calls: a poll as it was read, and as two uses of it a decoded request, and a raw frame offered to the devices. Rules D15, N1.
-- Assumes nothing.
use Rattle.std.specs.Prelude.{◌≡◌, ℕ, List, [], ◌∷◌, ◌++◌, map, length, replicate, Result, Ok, Err}
use Rattle.lists.specs.Starting.{starting}
use Rattle.refusal.specs.Numbers.{Numbers, accepted_with, refused_with}
use Rattle.refusal.specs.declared.Refusal.{Refusal}
use Rattle.answers.specs.Reading.{fill}
use Rattle.guard.specs.Guard.{guard}
use Rattle.table.specs.Table.{Table}
use Rattle.eventrequests.specs.Reading.{read_event_request}
use Rattle.eventrequests.specs.declared.EventRequest.{EventRequest}
use Rattle.packets.specs.Layout.{event_packet, no_events, packet_frame, no_events_frame}
use Rattle.queues.specs.Queues.{Queues, valid_queues}
use Rattle.polls.specs.Poll.{event_of, Heard, silence, nothing, packet, PollTurn, poll}
use Rattle.polls.specs.declared.Polled.{Polled}
use Rattle.polls.specs.declared.Polled.TheVariants.{Packet, Nothing, Silent}

-- an answer on the bus is an FF for each window that was dominant and the frame behind them; silence is nothing
unfoldable pub heard_bytes : Heard → List ℕ
heard_bytes silence = []
heard_bytes (nothing dominant id) = replicate dominant fill ++ no_events_frame
heard_bytes (packet dominant id flag queued events) = replicate dominant fill ++ packet_frame id flag queued (map event_of events)

-- what is answered: how many FF it begins with, how many bytes it has, who sent them, and of a packet its flag and how many events
-- it lists
abbrev pub polled_as : Heard → Polled
polled_as silence = Silent
polled_as (nothing dominant id) = Nothing dominant (length (heard_bytes (nothing dominant id))) id
polled_as (packet dominant id flag queued events) = Packet dominant (length (heard_bytes (packet dominant id flag queued events))) id flag (length events)

-- the same as numbers: the subcommand, and then those; silence has none of them, so that no FF, no bytes and no sender are told
abbrev pub polled_numbers : Result Polled Refusal → Numbers
polled_numbers (Ok (Packet skipped size sender flag events)) = accepted_with (event_packet ∷ skipped ∷ size ∷ sender ∷ flag ∷ events ∷ [])
polled_numbers (Ok (Nothing skipped size sender)) = accepted_with (no_events ∷ skipped ∷ size ∷ sender ∷ [])
polled_numbers (Ok Silent) = accepted_with (0 ∷ 0 ∷ 0 ∷ [])
polled_numbers (Err why) = refused_with why

-- what a call gives: the answer, the lent buffer and the queues afterwards, and the polls that it made
pub record Polling : Type 0 where
  pub polled : Result Polled Refusal
  pub buffer : List ℕ
  pub queues : Queues
  pub turns : List PollTurn

-- what a call is promised to give: its result, which shows the answer (as itself, or as a caller of another language takes it),
-- and what the lent buffer and the four columns hold afterwards
pub record GivesPoll {A : Type 0} (shows : Result Polled Refusal → A) (given : Polling) (r : A) (buffer flags lasts counts slots : List ℕ) : Type 0 where
  pub result : r ≡ shows given.polled
  pub buffer_is : buffer ≡ given.buffer
  pub flags_are : flags ≡ given.queues.flags
  pub lasts_are : lasts ≡ given.queues.lasts
  pub counts_are : counts ≡ given.queues.counts
  pub slots_are : slots ≡ given.queues.slots

-- room for an FF for each of 12 windows and a packet of 8 events of 12 bytes
abbrev pub poll_room : ℕ
poll_room = 116

-- a refusal leaves all that was lent as it was, and no poll is made (rule N1)
abbrev pub poll_refusing : Refusal → List ℕ → Queues → Polling
poll_refusing why buffer q = record { polled = Err why; buffer = buffer; queues = q; turns = [] }

-- a poll made: the answer overwrites the start of the buffer and nothing behind it
unfoldable pub polling : EventRequest → List ℕ → Table → Queues → Polling
polling request buffer t q =
    record {
      polled = Ok (polled_as (poll request t q).heard);
      buffer = starting (heard_bytes (poll request t q).heard) buffer;
      queues = (poll request t q).queues;
      turns = poll request t q ∷ [];
    }

-- what the reader took is the request that it found; what the reader refused is refused as the reader did
abbrev pub poll_reading : Result EventRequest Refusal → List ℕ → Table → Queues → Polling
poll_reading (Ok request) buffer t q = polling request buffer t q
poll_reading (Err why) buffer t q = poll_refusing why buffer q

-- first the guard, then what was read (rule N2)
abbrev pub poll_behind : Result (Unit {0}) Refusal → Result EventRequest Refusal → List ℕ → Table → Queues → Polling
poll_behind (Ok tt) read buffer t q = poll_reading read buffer t q
poll_behind (Err why) read buffer t q = poll_refusing why buffer q

-- the call
unfoldable pub poll_call : Result EventRequest Refusal → List ℕ → Table → Queues → Polling
poll_call read buffer t q = poll_behind (guard poll_room (length buffer) (valid_queues t q)) read buffer t q

-- a raw frame is the request that it is read as
abbrev pub offer_poll_call : List ℕ → List ℕ → Table → Queues → Polling
offer_poll_call frame buffer t q = poll_call (read_event_request frame) buffer t q
