-- `framing::closed_at` meets its contract: the check stands two bytes before the end, where there are two. Assumes nothing.
use mathlib.Core.Path.{sym, ◌∙◌}
use native.Mathlib.Omega.{arith}
use lib.ListN.{drop, length-drop}
use Rattle.framing.specs.Layout.{closed}
use Rattle.framing.proofs.HeadCheck.{closed_short, passes_is}
use Rattle.framing.proofs.closed_at.Goals as goal

pub returns-then-input-at : goal.returns-then-input-at
returns-then-input-at c = let args = c.args in sym (closed_short (drop args.at args.input.now) (omega (arith, length-drop args.at args.input.now)))

pub returns-then-left-lt2 : goal.returns-then-left-lt2
returns-then-left-lt2 c = let args = c.args in sym (closed_short (drop args.at args.input.now) (omega (arith, length-drop args.at args.input.now)))

pub returns : goal.returns
unfolding closed
returns c = let args = c.args in c.check_passes.ensures ∙ sym (passes_is args.input.now args.at)
