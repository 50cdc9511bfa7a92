-- `railbus::length_for` meets its contract. Assumes nothing.
use mathlib.Core.Path.{sym, ◌∙◌}
use Rattle.railbus.proofs.length_for.Goals as goal

pub returns-then-is_short : goal.returns-then-is_short
returns-then-is_short c = simp (sym c.is_short.ensures ∙ c.if-is_short.true)

pub returns : goal.returns
returns c = simp (sym c.is_short.ensures ∙ c.if-is_short.false)
