-- The source's packets, of the definitions.
-- Assumes nothing.
use Rattle.std.specs.Prelude.{Ok, Err}
use mathlib.Core.Path.{◌≡◌, refl}
use mathlib.Core.Bool.{true, false}
use mathlib.Core.List.{[], ◌∷◌}
use Rattle.crc.specs.Register.{step, steps}
use Rattle.refusal.specs.Number.{frame_length, subcommand_wrong, frame_check, digit_wrong, at_place}
use Rattle.framing.specs.Framing.{frame, passed, judged, framed_at}
use Rattle.crc7.specs.Check.{crc7_bytes, crc7}
use Rattle.railbus.specs.Hex.{is_digit, digit_value, digit, digits, spelled_from}
use Rattle.railbus.specs.Layout.{packet_text}
use Rattle.railbus.specs.Reading.{no_digit_from, found_in, read_packet}
use Rattle.railbus.specs.declared.Short.TheVariants.{ReadRequest}
use Rattle.railbus.specs.declared.Long.TheVariants.{WriteRequest, ReadAcknowledge, Special}
use Rattle.railbus.specs.declared.Message.TheVariants.{Bare, With}
use Rattle.railbus.specs.declared.Packet.{Packet}

-- register 0 of device FF is asked for, and holds 0015002A
abbrev request : Packet
request = record { address = 0xFF; register = 0x00; message = Bare ReadRequest }

abbrev answer : Packet
answer = record { address = 0xFF; register = 0x00; message = With ReadAcknowledge 0x0015002A }

-- 10 is written to register 0 of device 93
abbrev write : Packet
write = record { address = 0x93; register = 0x00; message = With WriteRequest 0x00000010 }

-- what was written to register FD is invalid
abbrev invalid : Packet
invalid = record { address = 0x93; register = 0xFD; message = With Special 0x00000009 }

-- RPFFR009E, RPFFK000015002AF4, RP93W00000000109F and RP93nFD00000009A4
pub worked_texts : (packet_text request ≡ 0x52 ∷ 0x50 ∷ 0x46 ∷ 0x46 ∷ 0x52 ∷ 0x30 ∷ 0x30 ∷ 0x39 ∷ 0x45 ∷ [])
    × (packet_text answer ≡ 0x52 ∷ 0x50 ∷ 0x46 ∷ 0x46 ∷ 0x4B ∷ 0x30 ∷ 0x30 ∷ 0x30 ∷ 0x30 ∷ 0x31 ∷ 0x35 ∷ 0x30 ∷ 0x30 ∷ 0x32 ∷ 0x41 ∷ 0x46 ∷ 0x34 ∷ [])
    × (packet_text write ≡ 0x52 ∷ 0x50 ∷ 0x39 ∷ 0x33 ∷ 0x57 ∷ 0x30 ∷ 0x30 ∷ 0x30 ∷ 0x30 ∷ 0x30 ∷ 0x30 ∷ 0x30 ∷ 0x30 ∷ 0x31 ∷ 0x30 ∷ 0x39 ∷ 0x46 ∷ [])
    × (packet_text invalid ≡ 0x52 ∷ 0x50 ∷ 0x39 ∷ 0x33 ∷ 0x6E ∷ 0x46 ∷ 0x44 ∷ 0x30 ∷ 0x30 ∷ 0x30 ∷ 0x30 ∷ 0x30 ∷ 0x30 ∷ 0x30 ∷ 0x39 ∷ 0x41 ∷ 0x34 ∷ [])
unfolding step steps crc7_bytes crc7 frame digit digits packet_text
worked_texts = (refl, refl, refl, refl)

-- RPFFR009E is read back with its checksum, and RPFFR0000 without
pub worked_reads : (read_packet (0x52 ∷ 0x50 ∷ 0x46 ∷ 0x46 ∷ 0x52 ∷ 0x30 ∷ 0x30 ∷ 0x39 ∷ 0x45 ∷ []) ≡ Ok (request, true))
    × (read_packet (0x52 ∷ 0x50 ∷ 0x46 ∷ 0x46 ∷ 0x52 ∷ 0x30 ∷ 0x30 ∷ 0x30 ∷ 0x30 ∷ []) ≡ Ok (request, false))
unfolding step steps crc7_bytes crc7 is_digit digit_value spelled_from passed judged framed_at no_digit_from found_in read_packet
worked_reads = (refl, refl)

-- RPFFR009F, RPFFR0, RPFFr009E and RPfFR009E are refused: another checksum, too short, no letter, no digit; RPfFR009E0 for its length, and not
-- for what stands where a digit is due
pub worked_refusals : (read_packet (0x52 ∷ 0x50 ∷ 0x46 ∷ 0x46 ∷ 0x52 ∷ 0x30 ∷ 0x30 ∷ 0x39 ∷ 0x46 ∷ []) ≡ Err (at_place frame_check 7))
    × (read_packet (0x52 ∷ 0x50 ∷ 0x46 ∷ 0x46 ∷ 0x52 ∷ 0x30 ∷ []) ≡ Err (at_place frame_length 0))
    × (read_packet (0x52 ∷ 0x50 ∷ 0x46 ∷ 0x46 ∷ 0x72 ∷ 0x30 ∷ 0x30 ∷ 0x39 ∷ 0x45 ∷ []) ≡ Err (at_place subcommand_wrong 4))
    × (read_packet (0x52 ∷ 0x50 ∷ 0x66 ∷ 0x46 ∷ 0x52 ∷ 0x30 ∷ 0x30 ∷ 0x39 ∷ 0x45 ∷ []) ≡ Err (at_place digit_wrong 2))
    × (read_packet (0x52 ∷ 0x50 ∷ 0x66 ∷ 0x46 ∷ 0x52 ∷ 0x30 ∷ 0x30 ∷ 0x39 ∷ 0x45 ∷ 0x30 ∷ []) ≡ Err (at_place frame_length 0))
unfolding step steps crc7_bytes crc7 is_digit digit_value spelled_from passed judged framed_at no_digit_from found_in read_packet
worked_refusals = (refl, refl, refl, refl, refl)
