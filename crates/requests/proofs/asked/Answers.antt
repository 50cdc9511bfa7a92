-- `requests::asked` meets its contract. Assumes nothing.
use borrow.Author.Tests.{eq-eqb, ne_eqb}
use Rattle.requests.proofs.asked.Goals as goal

pub returns-then-subcommand-eq-START : goal.returns-then-subcommand-eq-START
returns-then-subcommand-eq-START c = simp (eq-eqb _ _ c.if-subcommand-eq-START.true)

pub returns : goal.returns
returns c = simp (ne_eqb _ _ c.if-subcommand-eq-START.false)
