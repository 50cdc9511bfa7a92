-- `crc::eight_steps` meets its contract: what it works out passes one test over all bytes, which antt computes.
-- The blanks are the code's own numbers, so that the test is of them. Assumes nothing.
use borrow.Author.Rules.{rules}
use lib.Count.{ones, ones_in}
use Rattle.crc.specs.BitByBit.{modbus_one, modbus_times}
use Rattle.crc.proofs.Table.{agreed}
use Rattle.crc.proofs.Byte.{worked_out}
use Rattle.crc.proofs.eight_steps.Goals as goal

pub returns : goal.returns
unfolding modbus_times modbus_one ones ones_in
returns c = agreed (worked_out _ _ _) (modbus_times 8) tt c.args.x (search rules)
