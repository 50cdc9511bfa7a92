-- `railbus::write_long` meets its contract. Assumes nothing.
use native.Mathlib.Omega.{arith}
use Rattle.railbus.proofs.Writer.{long_is, checked_wrote}
use Rattle.railbus.proofs.write_long.Goals as goal

pub returns : goal.returns
returns c =
    checked_wrote _ _ _ c.args.out.now _
    c.write_checked.ensures
    (long_is c.args.head c.args.value _ _ _ _ _ _ _ _ (omega arith) (omega arith) c.digit.ensures c.digit-2.ensures c.digit-3.ensures c.digit-4.ensures c.digit-5.ensures c.digit-6.ensures c.digit-7.ensures c.digit-8.ensures)
