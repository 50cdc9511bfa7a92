-- Rules R4 and N3: what the packet writer puts at the start of an output with this much room, or why not.
-- Assumes nothing.
use Rattle.std.specs.Prelude.{ℕ}
use Rattle.refusal.specs.Output.{Output, bytes, fitting}
use Rattle.railbus.specs.Layout.{packet_text}
use Rattle.railbus.specs.declared.Packet.{Packet}

unfoldable pub write_packet : Packet → ℕ → Output
write_packet p room = fitting room (bytes (packet_text p))
