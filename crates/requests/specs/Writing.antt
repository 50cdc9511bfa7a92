-- Rule N3: what the request writer puts at the start of an output with this much room, or why not.
-- Assumes nothing.
use Rattle.std.specs.Prelude.{ℕ}
use Rattle.refusal.specs.Output.{Output, bytes, fitting}
use Rattle.requests.specs.Layout.{request_frame}
use Rattle.requests.specs.declared.Request.{Request}

unfoldable pub write_request : Request → ℕ → Output
write_request request room = fitting room (bytes (request_frame request))
