-- `checkbyte::ebus_check` meets its contract: each way lends the tables that it goes by.
-- Assumes nothing.
use mathlib.Core.Path.{refl}
use Rattle.lists.proofs.Cases.{true_not_false}
use Rattle.checkbyte.proofs.CheckByte.{whole_table}
use Rattle.checkbyte.proofs.ebus_check.Goals as goal

pub check_by-requires : goal.check_by-requires
check_by-requires c = (whole_table c.ebus_table-table.result c.ebus_table-table.ensures, λ told. true_not_false told refl)
