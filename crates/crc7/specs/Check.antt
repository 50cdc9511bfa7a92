-- The Railbus checksum, rule R2: the CRC7 of all characters before it, as the source's routine has it, and above it the bit that
-- says that it is to be examined.
-- Assumes nothing.
use Rattle.std.specs.Prelude.{ℕ, ◌+◌, ◌/◌, List, [], ◌∷◌}
use Rattle.std.specs.Int.Bits.{bit_xor}
use Rattle.crc.specs.Register.{left, steps}

-- x^7 + x^3 + 1, one place up: seven bits stand in the high end of a register of eight
abbrev pub crc7_polynomial : ℕ
crc7_polynomial = 0x12

-- a character is added to the register, which then takes eight steps to the left
unfoldable pub crc7_bytes : ℕ → List ℕ → ℕ
crc7_bytes register [] = register
crc7_bytes register (c ∷ cs) = crc7_bytes (steps left 8 crc7_polynomial 8 (bit_xor register c)) cs

-- the result is halved
unfoldable pub crc7 : List ℕ → ℕ
crc7 characters = crc7_bytes 0x00 characters / 2

-- with this bit set a checksum is examined
abbrev pub examined : ℕ
examined = 0x80

abbrev pub checksum : List ℕ → ℕ
checksum characters = examined + crc7 characters
