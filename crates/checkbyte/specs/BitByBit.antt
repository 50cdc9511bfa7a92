-- Rule E1, bit by bit. The eBUS rule once more, as the public routine writes it: with an if, and with its own numbers. That
-- it is the check of Check.antt on all bytes is proved in proofs/BitByBit.antt, so that a reader need not trust the
-- compact step of crc/specs/Register.antt.
-- Assumes nothing.
use Rattle.std.specs.Prelude.{◌≡◌, ℕ, ◌+◌, ◌-◌, ◌*◌, ◌<◌, List, [], ◌∷◌, ltb, get_or, replicate, take, drop}
use Rattle.std.specs.Int.Bits.{bit_xor}
use Rattle.lists.specs.Choice.{pick}
use Rattle.crc.specs.Register.{bits}
use Rattle.crc.specs.BitByBit.{TableOf}
use Rattle.escapes.specs.Escape.{esc, expanded}
use Rattle.checkbyte.specs.Check.{ebus_check}

-- double the register and put the bit in its low place; past eight bits, take 100 away and xor with 9B
unfoldable pub ebus_in : ℕ → ℕ → ℕ
ebus_in register bit = pick (ltb (register * 2 + bit) 0x100) (register * 2 + bit) (bit_xor (register * 2 + bit - 0x100) 0x9B)

unfoldable pub ebus_all : ℕ → List ℕ → ℕ
ebus_all register [] = register
ebus_all register (bit ∷ rest) = ebus_all (ebus_in register bit) rest

unfoldable pub ebus_rule : ℕ → List ℕ → ℕ
ebus_rule register [] = register
ebus_rule register (b ∷ bs) = ebus_rule (ebus_all register (bits 8 b)) bs

-- it is the check, on every input
abbrev pub EbusIsBitByBit : Type 0
EbusIsBitByBit = (logical : List ℕ) → ebus_check logical ≡ ebus_rule 0x00 (expanded logical)

-- the last sentence of rule E1: a lone byte below A9 is its own check byte
abbrev pub LoneByte : Type 0
LoneByte = (b : ℕ) → b < esc → ebus_check (b ∷ []) ≡ b

-- the eBUS table: entry k is what eight zero bits make of a register that holds k
abbrev pub EbusTable : List ℕ → Type 0
EbusTable table = TableOf (λ (k : ℕ). ebus_all k (replicate 8 0)) table

-- .. and sixteen zero bits, those of two bytes
abbrev pub EbusTwice : List ℕ → Type 0
EbusTwice table = TableOf (λ (k : ℕ). ebus_all k (replicate 16 0)) table

-- both, one behind the other
pub record EbusTables (tables : List ℕ) : Type 0 where
  pub one : EbusTable (take 256 tables)
  pub two : EbusTwice (drop 256 tables)

-- the check of raw bytes by any two tables: two bytes are added to the entry of the second that the running value picks, the
-- first of them by its entry of the first
unfoldable pub check_from : List ℕ → ℕ → List ℕ → ℕ
check_from tables running [] = running
check_from tables running (b ∷ []) = bit_xor (get_or tables running 0) b
check_from tables running (a ∷ b ∷ rest) = check_from tables (bit_xor (get_or tables (256 + running) 0) (bit_xor (get_or tables a 0) b)) rest

-- .. starting at 00; by the eBUS tables it is the check of Check.antt (proofs/CheckByte.antt)
abbrev pub check_by : List ℕ → List ℕ → ℕ
check_by tables raw = check_from tables 0x00 raw
