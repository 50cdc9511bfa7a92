-- Rule N3: what the writer puts at the start of an output with this much room, or why not.
-- Assumes nothing.
use Rattle.std.specs.Prelude.{ℕ}
use Rattle.refusal.specs.Output.{Output, bytes, fitting}
use Rattle.packets.specs.Layout.{no_events_frame}

unfoldable pub write_no_events : ℕ → Output
write_no_events room = fitting room (bytes no_events_frame)
