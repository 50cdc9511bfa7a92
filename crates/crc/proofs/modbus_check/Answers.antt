-- `crc::modbus_check` meets its contract: each of the two forms promises it. Assumes nothing.
use Rattle.crc.proofs.modbus_check.Goals as goal

pub returns-then-bytes-lt-ROWS_FROM : goal.returns-then-bytes-lt-ROWS_FROM
returns-then-bytes-lt-ROWS_FROM c = c.check_without_rows.ensures

pub returns : goal.returns
returns c = c.check_by_rows.ensures
