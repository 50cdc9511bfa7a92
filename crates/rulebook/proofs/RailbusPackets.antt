-- Demand 2 of the packets of Railbus: `RailbusDemand`.
-- Assumes nothing.
use mathlib.Core.Path.{◌≡◌, sym, ap}
use mathlib.Core.List.{List}
use Prim.Native.Nat.{ℕ, ◌≤◌}
use lib.ListN.{length}
use Rattle.refusal.specs.Output.{bytes, content}
use Rattle.refusal.proofs.Writer.{fitted, fits_whole}
use Rattle.railbus.specs.Layout.{packet_text}
use Rattle.railbus.specs.Writing.{write_packet}
use Rattle.railbus.specs.declared.Packet.{Packet}
use Rattle.railbus.proofs.RoundTrip.{railbus_packets}
use Rattle.rulebook.specs.Demand2.{RailbusDemand}

packet_written : (p : Packet) (room : ℕ) → length (packet_text p) ≤ room → write_packet p room ≡ bytes (packet_text p)
unfolding write_packet
packet_written p room fits = fits_whole (packet_text p) room fits

packet_only : (p : Packet) (room : ℕ) (raw : List ℕ) → write_packet p room ≡ bytes raw → (raw ≡ packet_text p) × (length raw ≤ room)
unfolding write_packet
packet_only p room raw e =
    let given = fitted (bytes (packet_text p)) room raw e in
    (ap content (sym given.0), given.1)

pub railbus_demand : RailbusDemand
railbus_demand = record { packet_written = packet_written; packet_only = packet_only; packets = railbus_packets }
