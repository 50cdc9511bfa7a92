-- `escapes::escape_at` meets its contract: the laws of EscapeByAddition.antt, by the tests that led there.
-- Assumes nothing.
use mathlib.Core.Path.{sym, ◌∙◌}
use borrow.Author.Tests.{le-ltb}
use Rattle.escapes.specs.Logical.{escape_at}
use Rattle.escapes.proofs.EscapeByAddition.{half_read, half_early, half_wrong}
use Rattle.escapes.proofs.escape_at.Goals as goal

pub returns-then-run-second : goal.returns-then-run-second
unfolding escape_at
returns-then-run-second c = simp (le-ltb _ _ c.if-run-second.true) c.refused.ensures

pub returns-then-half-le1 : goal.returns-then-half-le1
returns-then-half-le1 c = sym (half_read c.args.run.now c.args.second c.if-run-second.false c.if-half-le1.true)

pub returns-then-half : goal.returns-then-half
returns-then-half c = c.refused-then-half.ensures ∙ sym (half_early c.args.run.now c.args.second c.if-run-second.false c.if-half-le1.false c.if-half.true)

pub returns : goal.returns
returns c = c.refused-2.ensures ∙ sym (half_wrong c.args.run.now c.args.second c.if-run-second.false c.if-half-le1.false c.if-half.false)
