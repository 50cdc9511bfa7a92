-- Only for private contracts: what valid queues say of the columns that a function is lent, and what the winner of a contest gives.
-- Assumes nothing.
use Rattle.std.specs.Prelude.{◌≡◌, true, List, [], ◌∷◌, map, ℕ, ◌*◌, ◌≤◌, ◌<◌, length, get_or}
use Rattle.lists.specs.Starting.{starting}
use Rattle.table.specs.Table.{Table}
use Rattle.eventrequests.specs.declared.EventRequest.{EventRequest}
use Rattle.queues.specs.Queues.{Queues, Queued, queue_columns, most_queued, slots_length, slots_of, slots_right}
use Rattle.framing.specs.Framing.{body}
use Rattle.framing.specs.Layout.{extended}
use Rattle.packets.specs.Layout.{event_packet, packet_bytes}
use Rattle.polls.specs.Poll.{event_of, poll_contest, poll_heard, queues_after}
use Rattle.polls.specs.Calls.{heard_bytes, polled_as}
use Rattle.polls.specs.declared.Polled.{Polled}

-- the slots of a queue of so many events
pub record RightSlots (count : ℕ) (slots : List ℕ) : Type 0 where
  pub few : count ≤ most_queued
  pub long : length slots ≡ slots_length
  pub right : slots_right count slots ≡ true

-- the queues of so many devices
pub record RightQueues (n : ℕ) (counts slots : List ℕ) : Type 0 where
  pub counts_long : length counts ≡ n
  pub slots_long : length slots ≡ slots_length * n
  pub each : (device : ℕ) → device < n → RightSlots (get_or counts device 0) (slots_of slots device)

-- the queues that two of the columns hold; the others do not matter to who contends
abbrev pub queues_of : List ℕ → List ℕ → Queues
queues_of counts slots = queue_columns [] [] counts slots

-- a packet without its check, and how long the longest is: six bytes, and 8 events of 12
abbrev pub packet_body : ℕ → ℕ → ℕ → List Queued → List ℕ
packet_body sender flag queued events = body (sender ∷ extended ∷ []) event_packet (packet_bytes flag queued (map event_of events))

abbrev pub longest_body : ℕ
longest_body = 102

-- the answer of a contest behind its confirmation: the result, the buffer, and the one column that it may change
pub record GivesHeard (request : EventRequest) (t : Table) (q : Queues) (old : List ℕ) (r : Polled) (buffer lasts : List ℕ) : Type 0 where
  pub result : r ≡ polled_as (poll_heard request t q)
  pub buffer_is : buffer ≡ starting (heard_bytes (poll_heard request t q)) old
  pub lasts_are : lasts ≡ (queues_after (poll_contest request t q).place (poll_heard request t q) q).lasts
