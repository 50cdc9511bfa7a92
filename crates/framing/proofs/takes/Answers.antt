-- `framing::takes` meets its contract. Assumes nothing.
use borrow.Author.Tests.{eq-eqb, ne_eqb}
use Rattle.framing.proofs.takes.Goals as goal

pub returns-then-subcommand-one : goal.returns-then-subcommand-one
returns-then-subcommand-one c = simp (eq-eqb _ _ c.if-subcommand-one.true)

pub returns : goal.returns
returns c = simp (ne_eqb _ _ c.if-subcommand-one.false)
