-- `wirecalls::moor_kind` meets its contract: the kind, as its number.
-- Assumes nothing.
use mathlib.Core.Path.{ap, ◌∙◌}
use Rattle.addresses.specs.Address.{kind_number}
use Rattle.wirecalls.proofs.moor_kind.Goals as goal

pub returns : goal.returns
returns c = c.kind_number.ensures ∙ ap kind_number c.kind.ensures
