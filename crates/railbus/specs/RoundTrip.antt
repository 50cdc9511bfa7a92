-- Reading (rule R3) and writing (rule R4) Railbus packets are inverse to each other, in both directions, as one statement. The proof is
-- in proofs/RoundTrip.antt.
-- Assumes nothing.
use Rattle.std.specs.Prelude.{◌≡◌, ℕ, ◌<◌, true, false, List, ◌++◌, Ok}
use Rattle.crc7.specs.Check.{examined}
use Rattle.railbus.specs.Hex.{digits}
use Rattle.railbus.specs.Layout.{Holds, packet_body, packet_text}
use Rattle.railbus.specs.Reading.{read_packet}
use Rattle.railbus.specs.declared.Packet.{Packet}

pub record RailbusPackets : Type 0 where
  -- a packet that is written is read back as what went into it, and its checksum is examined
  pub packet_back : (p : Packet) → Holds p → read_packet (packet_text p) ≡ Ok (p, true)
  -- so is one with any checksum whose top bit is clear, unexamined
  pub unchecked_back : (p : Packet) → Holds p → (sum : ℕ) → sum < examined → read_packet (packet_body p ++ digits 2 sum) ≡ Ok (p, false)
  -- what is accepted is exactly the packet that is written for what was read
  pub packet_exact : (input : List ℕ) (p : Packet) → read_packet input ≡ Ok (p, true) → Holds p × (input ≡ packet_text p)
  -- or that packet with another checksum, whose top bit is clear
  pub unchecked_exact : (input : List ℕ) (p : Packet) → read_packet input ≡ Ok (p, false)
      → Holds p × ((sum : ℕ) × (sum < examined) × (input ≡ packet_body p ++ digits 2 sum))
