-- The Modbus check, rule F2: polynomial A001 in reflected form, start FFFF.
-- Assumes nothing.
use Rattle.std.specs.Prelude.{ℕ, List, [], ◌∷◌}
use Rattle.std.specs.Int.Bits.{bit_xor}
use Rattle.crc.specs.Register.{right, steps}

abbrev pub modbus_polynomial : ℕ
modbus_polynomial = 0xA001

-- a byte is added to the register's low end, which then takes eight steps to the right
unfoldable pub modbus_bytes : ℕ → List ℕ → ℕ
modbus_bytes register [] = register
modbus_bytes register (b ∷ bs) = modbus_bytes (steps right 16 modbus_polynomial 8 (bit_xor register b)) bs

unfoldable pub modbus_check : List ℕ → ℕ
modbus_check bytes = modbus_bytes 0xFFFF bytes
