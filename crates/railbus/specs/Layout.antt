-- A Railbus packet: rule R1.
-- Assumes nothing.
use Rattle.std.specs.Prelude.{ℕ, ◌+◌, ◌^◌, ◌<◌, Bool, true, ◌||◌, List, [], ◌∷◌, ◌++◌, map, eqb, length}
use Rattle.lists.specs.Choice.{pick}
use Rattle.framing.specs.Framing.{Framing, body, frame}
use Rattle.crc7.specs.Check.{checksum}
use Rattle.railbus.specs.Hex.{digits}
use Rattle.railbus.specs.declared.Short.{Short}
use Rattle.railbus.specs.declared.Short.TheVariants.{ReadRequest, Sync, NotAcknowledge}
use Rattle.railbus.specs.declared.Long.{Long}
use Rattle.railbus.specs.declared.Long.TheVariants.{WriteRequest, ReadAcknowledge, WriteAcknowledge, Special}
use Rattle.railbus.specs.declared.Message.{Message}
use Rattle.railbus.specs.declared.Message.TheVariants.{Bare, With}
use Rattle.railbus.specs.declared.Packet.{Packet}

-- ---- the letters: 'R', 'S' and 'N' carry no data; 'W', 'K', 'I' and 'n' do

abbrev pub short_letter : Short → ℕ
short_letter ReadRequest = 0x52
short_letter Sync = 0x53
short_letter NotAcknowledge = 0x4E

abbrev pub long_letter : Long → ℕ
long_letter WriteRequest = 0x57
long_letter ReadAcknowledge = 0x4B
long_letter WriteAcknowledge = 0x49
long_letter Special = 0x6E

abbrev pub letter_of : Message → ℕ
letter_of (Bare short) = short_letter short
letter_of (With long value) = long_letter long

abbrev pub is_short : ℕ → Bool
is_short letter = eqb letter (short_letter ReadRequest) || (eqb letter (short_letter Sync) || eqb letter (short_letter NotAcknowledge))

abbrev pub is_long : ℕ → Bool
is_long letter =
    eqb letter (long_letter WriteRequest) || (eqb letter (long_letter ReadAcknowledge) || (eqb letter (long_letter WriteAcknowledge) || eqb letter (long_letter Special)))

-- how long a packet is
abbrev pub short_length : ℕ
short_length = 9

abbrev pub long_length : ℕ
long_length = 17

abbrev pub length_for : ℕ → ℕ
length_for letter = pick (is_short letter) short_length long_length

-- ---- the text

-- the mark: 'R' and 'P'
abbrev pub mark : List ℕ
mark = 0x52 ∷ 0x50 ∷ []

-- rule R2: the checksum of all characters before it, as two digits
abbrev pub check_digits : List ℕ → List ℕ
check_digits characters = digits 2 (checksum characters)

-- mark, address, letter and checksum have so many characters
abbrev pub around_length : ℕ
around_length = 7

-- a framed message: mark and address, the letter, then register and data, and two digits of the checksum. Whether digits stand where
-- they are due is asked before the checksum is (rule R3), so this framing lets both pass and the reader asks them
abbrev pub railbus_framing : Framing
railbus_framing =
    record {
      marks = map eqb mark ++ (λ c. true) ∷ (λ c. true) ∷ [];
      takes = λ first letter. is_short letter || is_long letter;
      fits = λ letter carried. eqb (length carried + around_length) (length_for letter);
      shortest = short_length;
      check = check_digits;
      passes = λ characters check. true;
    }

-- mark and address; register and data
abbrev pub first_of : Packet → List ℕ
first_of p = mark ++ digits 2 p.address

abbrev pub data_digits : Message → List ℕ
data_digits (Bare short) = []
data_digits (With long value) = digits 8 value

abbrev pub carried_of : Packet → List ℕ
carried_of p = digits 2 p.register ++ data_digits p.message

-- all before the checksum, and the packet
unfoldable pub packet_body : Packet → List ℕ
packet_body p = body (first_of p) (letter_of p.message) (carried_of p)

unfoldable pub packet_text : Packet → List ℕ
packet_text p = frame railbus_framing (first_of p) (letter_of p.message) (carried_of p)

-- what a packet can hold: bytes for address and register, 32 bits of data
abbrev pub DataRight : Message → Type 0
DataRight (Bare short) = Unit {0}
DataRight (With long value) = value < 2 ^ 32

pub record Holds (p : Packet) : Type 0 where
  pub address_right : p.address < 256
  pub register_right : p.register < 256
  pub data_right : DataRight p.message
