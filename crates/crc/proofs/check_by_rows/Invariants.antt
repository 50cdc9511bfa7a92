-- `crc::check_by_rows` meets its contract. The loop's invariant: the arrays are the rows, and the check of the whole input is
-- what the register gives over the part not yet read. Assumes nothing.
use Rattle.std.proofs.Common.{◌*◌}
use Rattle.crc.specs.BitByBit.{ModbusRows}
use Rattle.crc.proofs.Byte.{Running}
use Rattle.crc.proofs.check_by_rows.Given as goal

abbrev pub invariant-loop-pair : goal.invariant-loop-pair
invariant-loop-pair l = ModbusRows l.rows × Running l.input l.register (2 * l.pair-index)
