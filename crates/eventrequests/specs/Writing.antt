-- Rule N3: what the writer puts at the start of an output with this much room, or why not.
-- Assumes nothing.
use Rattle.std.specs.Prelude.{ℕ}
use Rattle.refusal.specs.Output.{Output, bytes, fitting}
use Rattle.eventrequests.specs.Layout.{event_request_frame}
use Rattle.eventrequests.specs.declared.EventRequest.{EventRequest}

unfoldable pub write_event_request : EventRequest → ℕ → Output
write_event_request request room = fitting room (bytes (event_request_frame request))
