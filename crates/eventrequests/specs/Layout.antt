-- The request of event polling: rule F6.
-- Assumes nothing.
use Rattle.std.specs.Prelude.{ℕ, List, [], ◌∷◌}
use Rattle.framing.specs.Framing.{Framing, frame}
use Rattle.framing.specs.Layout.{scan_first, poll_events, scan_framing}
use Rattle.eventrequests.specs.declared.EventRequest.{EventRequest}

-- to all devices, with its one subcommand; four bytes are carried
abbrev pub event_request_framing : Framing
event_request_framing = scan_framing poll_events poll_events

-- the smallest id that may answer, the most bytes of events, and the packet confirmed: its sender's id and its flag
unfoldable pub event_request_bytes : EventRequest → List ℕ
event_request_bytes request = request.minimum ∷ request.most ∷ request.confirmed ∷ request.flag ∷ []

unfoldable pub event_request_frame : EventRequest → List ℕ
event_request_frame request = frame event_request_framing scan_first poll_events (event_request_bytes request)
