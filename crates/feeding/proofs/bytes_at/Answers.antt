-- `feeding::bytes_at` meets its contract: by whether bytes are in hand.
-- Assumes nothing.
use mathlib.Core.Path.{sym, ap}
use mathlib.Core.Bool.{Bool}
use borrow.Author.Tests.{eq-eqb, ne_eqb}
use Rattle.lists.specs.Choice.{pick}
use Rattle.feeding.proofs.bytes_at.Goals as goal

pub returns-then-held-eq0 : goal.returns-then-held-eq0
returns-then-held-eq0 c = sym (ap (λ (b : Bool). pick b c.args.run.now c.args.both.now) (eq-eqb c.args.held 0 c.if-held-eq0.true))

pub returns : goal.returns
returns c = sym (ap (λ (b : Bool). pick b c.args.run.now c.args.both.now) (ne_eqb c.args.held 0 c.if-held-eq0.false))
