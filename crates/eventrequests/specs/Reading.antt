-- The reader of the request of event polling, rule F6.
-- Assumes nothing.
use Rattle.std.specs.Prelude.{ℕ, List, [], ◌∷◌, get_or, Result, Ok, Err}
use Rattle.refusal.specs.declared.Refusal.{Refusal}
use Rattle.refusal.specs.Numbers.{Numbers, accepted_with, refused_with}
use Rattle.framing.specs.Framing.{FrameRead, framed, wrong, framed_at}
use Rattle.framing.specs.Layout.{poll_events}
use Rattle.eventrequests.specs.Layout.{event_request_framing}
use Rattle.eventrequests.specs.declared.EventRequest.{EventRequest}

-- what the reader finds, as numbers: the subcommand and the four bytes
abbrev pub event_request_numbers : Result EventRequest Refusal → Numbers
event_request_numbers (Ok request) = accepted_with (poll_events ∷ request.minimum ∷ request.most ∷ request.confirmed ∷ request.flag ∷ [])
event_request_numbers (Err why) = refused_with why

-- rule F6: each byte as it was sent
abbrev pub request_of : List ℕ → EventRequest
request_of carried = record { minimum = get_or carried 0 0; most = get_or carried 1 0; confirmed = get_or carried 2 0; flag = get_or carried 3 0 }

abbrev pub requested_by : FrameRead → Result EventRequest Refusal
requested_by (framed first subcommand carried) = Ok (request_of carried)
requested_by (wrong why) = Err why

-- nothing is passed over
unfoldable pub read_event_request : List ℕ → Result EventRequest Refusal
read_event_request input = requested_by (framed_at event_request_framing input 0)
