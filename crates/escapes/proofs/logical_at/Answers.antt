-- `escapes::logical_at` meets its contract: each answer is picked by the tests that led there.
-- Assumes nothing.
use mathlib.Core.Path.{◌≡◌}
use mathlib.Core.Bool.{false}
use lib.Dec.{eqb}
use lib.ListN.{get_or}
use borrow.Author.Rules.{rules}
use borrow.Author.Tests.{lt-ltb, le-ltb}
use Rattle.escapes.specs.Escape.{esc, syn}
use Rattle.escapes.specs.Logical.{logical_at}
use Rattle.escapes.proofs.logical_at.Goals as goal

pub returns-then-end-at : goal.returns-then-end-at
unfolding logical_at
returns-then-end-at c = simp (le-ltb _ _ c.if-end-at.true) c.refused.ensures

pub returns-in-169 : goal.returns-in-169
unfolding logical_at
returns-in-169 c = simp (lt-ltb _ _ c.if-end-at.false, c.in-169.is) c.escape_at.ensures

pub returns-in-170 : goal.returns-in-170
unfolding logical_at
returns-in-170 c = simp (lt-ltb _ _ c.if-end-at.false, c.in-170.is) c.refused-in-170.ensures

pub returns-in_default : goal.returns-in_default
unfolding logical_at
returns-in_default c =
    let no_esc : eqb (get_or c.args.run.now c.args.at 0) esc ≡ false = search rules in
    let no_syn : eqb (get_or c.args.run.now c.args.at 0) syn ≡ false = search rules in
    simp (lt-ltb _ _ c.if-end-at.false, no_esc, no_syn)
