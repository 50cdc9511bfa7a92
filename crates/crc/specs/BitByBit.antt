-- Rule F2, bit by bit. The Modbus rule once more, as the public routine writes it: with an if, and with its own numbers.
-- That it is the check of Check.antt on all bytes is proved in proofs/BitByBit.antt, so that a reader need not trust the
-- compact step of Register.antt.
-- Assumes nothing.
use Rattle.std.specs.Prelude.{◌≡◌, ℕ, zero, suc, ◌/◌, ◌%◌, ◌<◌, List, [], ◌∷◌, eqb, length, get_or}
use Rattle.std.specs.Int.Bits.{bit_xor}
use Rattle.lists.specs.Choice.{pick}
use Rattle.crc.specs.Check.{modbus_check}

-- halve the register; where its low bit was 1, xor with A001
unfoldable pub modbus_one : ℕ → ℕ
modbus_one register = pick (eqb (register % 2) 1) (bit_xor (register / 2) 0xA001) (register / 2)

unfoldable pub modbus_times : ℕ → ℕ → ℕ
modbus_times zero register = register
modbus_times (suc n) register = modbus_times n (modbus_one register)

unfoldable pub modbus_rule : ℕ → List ℕ → ℕ
modbus_rule register [] = register
modbus_rule register (b ∷ bs) = modbus_rule (modbus_times 8 (bit_xor register b)) bs

-- it is the check, on every input
abbrev pub ModbusIsBitByBit : Type 0
ModbusIsBitByBit = (bytes : List ℕ) → modbus_check bytes ≡ modbus_rule 0xFFFF bytes

-- ---- the rows: a byte's eight steps, and two bytes' sixteen

-- 256 entries, each of which is what a rule makes of its index
pub record TableOf (rule : ℕ → ℕ) (table : List ℕ) : Type 0 where
  pub size : length table ≡ 256
  pub entry : (k : ℕ) → k < 256 → get_or table k 0 ≡ rule k

-- the first row: entry k is what eight halvings make of a register that holds k
abbrev pub ModbusTable : List ℕ → Type 0
ModbusTable table = TableOf (modbus_times 8) table

-- both rows of the Modbus check; entry k of the second is what sixteen halvings make of a register that holds k
pub record ModbusRows (rows : List (List ℕ)) : Type 0 where
  pub one : ModbusTable (get_or rows 0 [])
  pub two : TableOf (modbus_times 16) (get_or rows 1 [])
