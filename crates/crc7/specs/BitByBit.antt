-- Rule R2, bit by bit: the remainder modulo x^7 + x^3 + 1 of all bits with seven zeros behind them, with an if and seven bits. That
-- it is the check of Check.antt on all bytes is proved in proofs/BitByBit.antt, so that a reader need not trust the compact step
-- of crc/specs/Register.antt, nor the routine's register of eight bits.
-- Assumes nothing.
use Rattle.std.specs.Prelude.{◌≡◌, ℕ, ◌*◌, ◌/◌, ◌%◌, ◌<◌, List, [], ◌∷◌, eqb, get_or}
use Rattle.std.specs.Int.Bits.{bit_xor}
use Rattle.lists.specs.Choice.{pick}
use Rattle.crc.specs.Register.{bits}
use Rattle.crc7.specs.Check.{crc7}

-- a bit meets the register's highest, which falls out; where the two differ, xor with x^3 + 1
unfoldable pub crc7_in : ℕ → ℕ → ℕ
crc7_in register bit = pick (eqb (register / 64) bit) (register * 2 % 128) (bit_xor (register * 2 % 128) 0x09)

unfoldable pub crc7_all : ℕ → List ℕ → ℕ
crc7_all register [] = register
crc7_all register (bit ∷ rest) = crc7_all (crc7_in register bit) rest

-- the bits of each byte, the highest first
unfoldable pub crc7_rule : ℕ → List ℕ → ℕ
crc7_rule register [] = register
crc7_rule register (b ∷ bs) = crc7_rule (crc7_all register (bits 8 b)) bs

-- it is the check, on all bytes
abbrev pub Crc7IsBitByBit : Type 0
Crc7IsBitByBit = (bytes : List ℕ) → ((i : ℕ) → get_or bytes i 0 < 256) → crc7 bytes ≡ crc7_rule 0x00 bytes
