-- `feeding::join` meets its contract: those of the run are put behind those in hand.
-- Assumes nothing.
use Rattle.feeding.proofs.Turning.{joined_is}
use borrow.Author.Rules.{rules}
use Rattle.feeding.proofs.join.Goals as goal

pub returns-then-n-eq0 : goal.returns-then-n-eq0
returns-then-n-eq0 c = λ some. absurd (some c.if-n-eq0.true)

pub returns : goal.returns
returns c = λ _. joined_is c.args.raw.now c.args.n c.args.run.now c.args.both.now _ _ c.requires.0 (search rules) c.requires.1 c.put.ensures c.put-2.ensures
