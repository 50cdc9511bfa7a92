-- `framing::length_for` meets its contract. Assumes nothing.
use borrow.Author.Tests.{eq-eqb, ne_eqb}
use Rattle.framing.proofs.length_for.Goals as goal

pub returns-then-subcommand-eq-FOUND : goal.returns-then-subcommand-eq-FOUND
returns-then-subcommand-eq-FOUND c = simp (eq-eqb _ _ c.if-subcommand-eq-FOUND.true)

pub returns-then-subcommand-eq-POLL : goal.returns-then-subcommand-eq-POLL
returns-then-subcommand-eq-POLL c = simp (ne_eqb _ _ c.if-subcommand-eq-FOUND.false, eq-eqb _ _ c.if-subcommand-eq-POLL.true)

pub returns : goal.returns
returns c = simp (ne_eqb _ _ c.if-subcommand-eq-FOUND.false, ne_eqb _ _ c.if-subcommand-eq-POLL.false)
