-- Demand 2 of the frames of event polling: `EventDemand`.
-- Assumes nothing.
use mathlib.Core.Path.{◌≡◌, sym, ap}
use mathlib.Core.List.{List}
use Prim.Native.Nat.{ℕ, ◌≤◌}
use lib.ListN.{length}
use Rattle.refusal.specs.Output.{bytes, content}
use Rattle.refusal.proofs.Writer.{fitted, fits_whole}
use Rattle.eventrequests.specs.Layout.{event_request_frame}
use Rattle.eventrequests.specs.Writing.{write_event_request}
use Rattle.eventrequests.specs.declared.EventRequest.{EventRequest}
use Rattle.eventrequests.proofs.RoundTrip.{event_requests}
use Rattle.packets.specs.Layout.{no_events_frame}
use Rattle.packets.specs.Writing.{write_no_events}
use Rattle.packets.proofs.RoundTrip.{event_packets}
use Rattle.rulebook.specs.Demand2.{EventDemand}

request_written : (request : EventRequest) (room : ℕ) → length (event_request_frame request) ≤ room → write_event_request request room ≡ bytes (event_request_frame request)
unfolding write_event_request
request_written request room fits = fits_whole (event_request_frame request) room fits

nothing_written : (room : ℕ) → length no_events_frame ≤ room → write_no_events room ≡ bytes no_events_frame
unfolding write_no_events
nothing_written room fits = fits_whole no_events_frame room fits

request_only : (request : EventRequest) (room : ℕ) (raw : List ℕ) → write_event_request request room ≡ bytes raw → (raw ≡ event_request_frame request) × (length raw ≤ room)
unfolding write_event_request
request_only request room raw e =
    let given = fitted (bytes (event_request_frame request)) room raw e in
    (ap content (sym given.0), given.1)

nothing_only : (room : ℕ) (raw : List ℕ) → write_no_events room ≡ bytes raw → (raw ≡ no_events_frame) × (length raw ≤ room)
unfolding write_no_events
nothing_only room raw e =
    let given = fitted (bytes no_events_frame) room raw e in
    (ap content (sym given.0), given.1)

pub event_frames : EventDemand
event_frames =
    record {
      request_written = request_written;
      nothing_written = nothing_written;
      request_only = request_only;
      nothing_only = nothing_only;
      requests = event_requests;
      packets = event_packets;
    }
