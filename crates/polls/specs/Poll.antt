-- One poll of the devices for events: what it confirms, who contends, and what the winner sends. Rules D12 to D14.
-- Assumes nothing.
use Rattle.std.specs.Prelude.{ℕ, zero, suc, ◌+◌, ◌-◌, ◌*◌, ◌^◌, Bool, true, ◌&&◌, List, [], ◌∷◌, leb, ltb, eqb, length, get_or, take, set}
use Rattle.lists.specs.Choice.{pick}
use Rattle.arbitration.specs.Contest.{decided}
use Rattle.arbitration.specs.declared.Decided.{Decided}
use Rattle.table.specs.Table.{Table, devices}
use Rattle.events.specs.Events.{Event, event_bytes}
use Rattle.eventrequests.specs.declared.EventRequest.{EventRequest}
use Rattle.queues.specs.Queues.{Queues, Queued, count_of, flag_of, queue}
use Rattle.oldest.specs.Oldest.{marker_of}
use Rattle.confirmation.specs.Confirmation.{confirmed}

-- ---- rule D13: who contends, and with what key

-- the event of one that is queued, and how many bytes that has on the wire
abbrev pub event_of : Queued → Event
event_of e = e.event

abbrev pub event_size : Queued → ℕ
event_size e = length (event_bytes (event_of e))

-- the oldest event fits into the bytes that are asked for; a device with nothing queued has none that would not
unfoldable pub oldest_fits : ℕ → List Queued → Bool
oldest_fits most [] = true
oldest_fits most (e ∷ es) = leb (event_size e) most

-- an id not below the smallest that may answer, and an oldest event that fits. Any other device sits this poll out.
abbrev pub contends : EventRequest → ℕ → List Queued → Bool
contends request id events = leb request.minimum id && oldest_fits request.most events

-- a window for each bit of a key: four of the marker, eight of the id
abbrev pub poll_windows : ℕ
poll_windows = 12

-- a device that sits out has a key that does not fit the windows (rule D3)
unfoldable pub poll_key : EventRequest → ℕ → List Queued → ℕ
poll_key request id events = pick (contends request id events) (marker_of events * 2 ^ 8 + id) (2 ^ poll_windows)

-- a number for each of so many devices, from this one on
unfoldable pub for_devices : (ℕ → ℕ) → ℕ → ℕ → List ℕ
for_devices number device zero = []
for_devices number device (suc more) = number device ∷ for_devices number (suc device) more

-- the keys of the devices with these ids
unfoldable pub poll_keys : EventRequest → List ℕ → Queues → List ℕ
poll_keys request ids q = for_devices (λ device. poll_key request (get_or ids device 0) (queue q device)) 0 (length ids)

-- where the device that remains stands in the table, and how many windows were dominant; where nobody contends, the place is that
-- of no device
abbrev pub poll_contest : EventRequest → Table → Queues → Decided
poll_contest request t q = decided poll_windows (poll_keys request t.addresses q)

-- ---- rule D14: what the winner sends

-- how many of the oldest events fit into so many bytes
unfoldable pub how_many_fit : ℕ → List Queued → ℕ
how_many_fit most [] = 0
how_many_fit most (e ∷ es) = pick (leb (event_size e) most) (suc (how_many_fit (most - event_size e) es)) 0

-- what is heard: nobody; or, behind so many FF, one for each dominant window, what a device sends: that nobody has events, with its
-- id; or a packet, with its id, its flag, how many events it has queued, and those that are listed
pub data Heard : Type 0 where
  silence : Heard
  nothing : ℕ → ℕ → Heard
  packet : ℕ → ℕ → ℕ → ℕ → List Queued → Heard

-- the queues once a device has sent so many events: they stay queued until they are confirmed
abbrev pub with_last : ℕ → ℕ → Queues → Queues
with_last device events q = record { flags = q.flags; lasts = set q.lasts device events; counts = q.counts; slots = q.slots }

-- a poll made: what was asked, the queues that it met, what was heard, and the queues after it
pub record PollTurn : Type 0 where
  pub request : EventRequest
  pub met : Queues
  pub heard : Heard
  pub queues : Queues

-- of the device that remains: with nothing queued it says that nobody has events; else it sends as many of its oldest events as
-- fit, with the flag of its next packet
unfoldable pub sent_by : EventRequest → Table → Queues → ℕ → ℕ → Heard
sent_by request t q dominant device =
    pick (eqb (count_of q device) 0) (nothing dominant (get_or t.addresses device 0))
    (packet dominant (get_or t.addresses device 0) (flag_of q device) (count_of q device) (take (how_many_fit request.most (queue q device)) (queue q device)))

-- .. and what it remembers of a packet is how many events that had
abbrev pub queues_after : ℕ → Heard → Queues → Queues
queues_after device silence q = q
queues_after device (nothing dominant id) q = q
queues_after device (packet dominant id flag queued events) q = with_last device (length events) q

-- the contest of those that contend, and what is heard; where nobody does, silence
abbrev pub heard_of : EventRequest → Table → Queues → Decided → Heard
heard_of request t q won = pick (ltb won.place (devices t)) (sent_by request t q won.dominant won.place) silence

-- one poll: first the packet that it names is confirmed, whoever answers; then the devices contend
abbrev pub after_confirming : EventRequest → Table → Queues → Queues
after_confirming request t q = confirmed t.addresses request.confirmed request.flag q

unfoldable pub poll_heard : EventRequest → Table → Queues → Heard
poll_heard request t q = heard_of request t q (poll_contest request t q)

unfoldable pub poll : EventRequest → Table → Queues → PollTurn
poll request t q =
    record {
      request = request;
      met = q;
      heard = poll_heard request t (after_confirming request t q);
      queues = queues_after (poll_contest request t (after_confirming request t q)).place (poll_heard request t (after_confirming request t q)) (after_confirming request t q);
    }
