-- The reader of Railbus packets, rule R3.
-- Assumes nothing.
use Rattle.refusal.specs.declared.Refusal.{Refusal}
use Rattle.std.specs.Prelude.{ℕ, suc, ◌-◌, Bool, not, ◌&&◌, ◌||◌, List, [], ◌∷◌, eqb, leb, ltb, length, take, drop, Result, Ok, Err}
use Rattle.lists.specs.Choice.{pick}
use Rattle.refusal.specs.Number.{frame_check, digit_wrong, at_place}
use Rattle.refusal.specs.Numbers.{Numbers, accepted_with, refused_with}
use Rattle.framing.specs.Framing.{FrameRead, framed, wrong, body_of, check_of, framed_at}
use Rattle.crc7.specs.Check.{examined, checksum}
use Rattle.railbus.specs.Hex.{is_digit, spelled}
use Rattle.railbus.specs.Layout.{short_letter, long_letter, letter_of, is_short, railbus_framing}
use Rattle.railbus.specs.declared.Short.{Short}
use Rattle.railbus.specs.declared.Short.TheVariants.{ReadRequest, Sync, NotAcknowledge}
use Rattle.railbus.specs.declared.Long.{Long}
use Rattle.railbus.specs.declared.Long.TheVariants.{WriteRequest, ReadAcknowledge, WriteAcknowledge, Special}
use Rattle.railbus.specs.declared.Message.{Message}
use Rattle.railbus.specs.declared.Message.TheVariants.{Bare, With}
use Rattle.railbus.specs.declared.Packet.{Packet}

-- ---- what a packet says

abbrev pub short_for : ℕ → Short
short_for letter = pick (eqb letter (short_letter ReadRequest)) ReadRequest (pick (eqb letter (short_letter Sync)) Sync NotAcknowledge)

abbrev pub long_for : ℕ → Long
long_for letter =
    pick (eqb letter (long_letter WriteRequest)) WriteRequest
    (pick (eqb letter (long_letter ReadAcknowledge)) ReadAcknowledge
    (pick (eqb letter (long_letter WriteAcknowledge)) WriteAcknowledge Special))

abbrev pub message_for : ℕ → ℕ → Message
message_for letter value = pick (is_short letter) (Bare (short_for letter)) (With (long_for letter) value)

-- by its parts: mark and address, the letter, register and data
abbrev pub packet_of : List ℕ → ℕ → List ℕ → Packet
packet_of first letter carried =
    record { address = spelled (drop 2 first); register = spelled (take 2 carried); message = message_for letter (spelled (drop 2 carried)) }

-- ---- the checksum

-- as it stands: its two digits, and whether it is to be examined
abbrev pub check_sent : List ℕ → ℕ
check_sent input = spelled (check_of input)

abbrev pub is_examined : List ℕ → Bool
is_examined input = leb examined (check_sent input)

-- it is wrong where it is examined and not that of all characters before it
abbrev pub check_fails : List ℕ → Bool
check_fails input = is_examined input && not (eqb (check_sent input) (checksum (body_of input)))

-- ---- the digits

-- a digit is due everywhere but at the mark and the letter
abbrev pub due : ℕ → Bool
due place = not (ltb place 2 || eqb place 4)

-- the place of the first character that is no digit where one is due, from the place on that the list starts at; behind its end
-- where there is none
unfoldable pub no_digit_from : ℕ → List ℕ → ℕ
no_digit_from at [] = at
no_digit_from at (c ∷ cs) = pick (due at && not (is_digit c)) at (no_digit_from (suc at) cs)

-- ---- the reader

-- what is asked of a framed packet: 26 for the digits, 16 for the checksum; success says whether that was examined
unfoldable pub found_in : List ℕ → List ℕ → ℕ → List ℕ → Result (Packet × Bool) Refusal
found_in input first letter carried =
    pick (ltb (no_digit_from 0 input) (length input)) (Err (at_place digit_wrong (no_digit_from 0 input)))
    (pick (check_fails input) (Err (at_place frame_check (length input - 2)))
    (Ok (packet_of first letter carried, is_examined input)))

abbrev pub packet_by : List ℕ → FrameRead → Result (Packet × Bool) Refusal
packet_by input (framed first letter carried) = found_in input first letter carried
packet_by input (wrong why) = Err why

-- before that the framing's numbers: 13 under 9 characters, 14, 15, 13 for the letter's length. Nothing is passed over
unfoldable pub read_packet : List ℕ → Result (Packet × Bool) Refusal
read_packet input = packet_by input (framed_at railbus_framing input 0)

-- ---- its answer as numbers: the letter, address, register, data (0 where there is none), and whether it was examined

abbrev pub data_of : Message → ℕ
data_of (Bare short) = 0
data_of (With long value) = value

abbrev pub packet_numbers : Result (Packet × Bool) Refusal → Numbers
packet_numbers (Ok (p, checked)) = accepted_with (letter_of p.message ∷ p.address ∷ p.register ∷ data_of p.message ∷ pick checked 1 0 ∷ [])
packet_numbers (Err why) = refused_with why
