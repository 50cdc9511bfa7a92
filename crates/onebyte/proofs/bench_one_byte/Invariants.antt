-- `onebyte::bench_one_byte` meets its contract. The loop's invariant: the array is the first row, and the check of the whole
-- run is what the register gives over the part not yet read. Assumes nothing.
use Rattle.crc.specs.BitByBit.{ModbusTable}
use Rattle.crc.proofs.Byte.{Running}
use Rattle.onebyte.proofs.bench_one_byte.Given as goal

abbrev pub invariant-loop-byte : goal.invariant-loop-byte
invariant-loop-byte l = ModbusTable l.table × Running l.bytes l.register l.byte-index
