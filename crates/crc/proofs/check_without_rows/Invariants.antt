-- `crc::check_without_rows` meets its contract. The loop's invariant: the check of the whole frame is what the register gives
-- over the part not yet read. Assumes nothing.
use Rattle.crc.proofs.Byte.{Running}
use Rattle.crc.proofs.check_without_rows.Given as goal

abbrev pub invariant-loop-byte : goal.invariant-loop-byte
invariant-loop-byte l = Running l.frame l.register l.byte-index
