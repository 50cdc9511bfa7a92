-- Each answer on event frames, queues and polls as a struct that C can take. It holds the answer's numbers by their names: rule
-- N1's number, 0 where nothing is refused, its place, and the values, of which one that is not there is 0.
-- Assumes nothing.
use Rattle.std.specs.Prelude.{Option, Result, Some, None}
use Rattle.refusal.specs.Numbers.{value}
use Rattle.refusal.specs.declared.Refusal.{Refusal}
use Rattle.eventrequests.specs.Reading.{event_request_numbers}
use Rattle.eventrequests.specs.declared.EventRequest.{EventRequest}
use Rattle.events.specs.declared.PlacedEvent.{PlacedEvent}
use Rattle.packets.specs.Reading.{events_numbers}
use Rattle.packets.specs.declared.EventsRead.{EventsRead}
use Rattle.newevents.specs.Event.{added_numbers}
use Rattle.polls.specs.Calls.{polled_numbers}
use Rattle.polls.specs.declared.Polled.{Polled}
use Rattle.eventboundary.specs.declared.MoorEventRequestRead.{MoorEventRequestRead}
use Rattle.eventboundary.specs.declared.MoorEventsRead.{MoorEventsRead}
use Rattle.eventboundary.specs.declared.MoorEvent.{MoorEvent}
use Rattle.eventboundary.specs.declared.MoorAdded.{MoorAdded}
use Rattle.eventboundary.specs.declared.MoorPolled.{MoorPolled}

abbrev pub event_request_for_c : Result EventRequest Refusal → MoorEventRequestRead
event_request_for_c x =
    let n = event_request_numbers x in
    record { number = n.number; minimum = value n 1; most = value n 2; confirmed = value n 3; flag = value n 4; place = n.place }

abbrev pub events_for_c : Result EventsRead Refusal → MoorEventsRead
events_for_c x =
    let n = events_numbers x in
    record { number = n.number; answer = value n 0; sender = value n 2; flag = value n 3; queued = value n 4; size = value n 7; place = n.place; listed = value n 5; first = value n 6; skipped = value n 1 }

-- 1 before a whole event; where none stands, all is 0
abbrev pub event_for_c : Option PlacedEvent → MoorEvent
event_for_c (Some event) = record { whole = 1; kind = event.kind; size = event.size; identifier = event.identifier; start = event.start; next = event.next }
event_for_c None = record { whole = 0; kind = 0; size = 0; identifier = 0; start = 0; next = 0 }

abbrev pub added_for_c : Result (Unit {0}) Refusal → MoorAdded
added_for_c x =
    let n = added_numbers x in
    record { number = n.number; place = n.place }

-- silence is answer 0
abbrev pub polled_for_c : Result Polled Refusal → MoorPolled
polled_for_c x =
    let n = polled_numbers x in
    record { number = n.number; answer = value n 0; sender = value n 3; flag = value n 4; events = value n 5; place = n.place; length = value n 2; skipped = value n 1 }
