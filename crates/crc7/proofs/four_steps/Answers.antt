-- `crc7::four_steps` meets its contract: what it works out passes one test over all bytes, which antt computes.
-- The blanks are the code's own numbers, so that the test is of them. Assumes nothing.
use borrow.Author.Rules.{rules}
use Rattle.crc.specs.Register.{left, step, steps}
use Rattle.crc.proofs.Table.{agreed}
use Rattle.crc7.specs.Check.{crc7_polynomial}
use Rattle.crc7.proofs.Character.{four_steps}
use Rattle.crc7.proofs.four_steps.Goals as goal

pub returns : goal.returns
unfolding steps step
returns c = agreed (four_steps _ _ _ _) (steps left 8 crc7_polynomial 4) tt c.args.register (search rules)
