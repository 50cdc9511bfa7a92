-- `crc::modbus_rows` meets its contract: each row passes the one test over all its entries, which antt computes.
-- Assumes nothing.
use mathlib.Core.Path.{refl}
use Rattle.crc.specs.BitByBit.{modbus_one, modbus_times}
use Rattle.crc.proofs.Table.{tested}
use Rattle.crc.proofs.modbus_rows.Goals as goal

pub returns : goal.returns
unfolding modbus_times modbus_one
returns c = record { one = tested (modbus_times 8) _ refl tt; two = tested (modbus_times 16) _ refl tt }
