-- `wirecalls::moor_logical_at` meets its contract: what the reader gives, as numbers.
-- Assumes nothing.
use mathlib.Core.Path.{ap, ◌∙◌}
use Rattle.boundary.specs.ForC.{logical_for_c}
use Rattle.wirecalls.proofs.moor_logical_at.Goals as goal

pub returns : goal.returns
returns c = c.logical_for_c.ensures ∙ ap logical_for_c c.logical_at.ensures
