-- `railbus::is_letter` meets its contract. Assumes nothing.
use mathlib.Core.Path.{sym, ◌∙◌}
use Rattle.railbus.specs.Layout.{is_long}
use Rattle.lists.proofs.Cases.{either_first, either_second}
use Rattle.railbus.proofs.is_letter.Goals as goal

pub returns-then-is_short : goal.returns-then-is_short
returns-then-is_short c = either_first (is_long c.args.letter) (sym c.is_short.ensures ∙ c.if-is_short.true)

pub returns : goal.returns
returns c = c.is_long.ensures ∙ sym (either_second (is_long c.args.letter) (sym c.is_short.ensures ∙ c.if-is_short.false))
