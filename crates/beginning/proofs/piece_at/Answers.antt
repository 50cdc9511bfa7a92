-- `beginning::piece_at` meets its contract: the three bytes from the position on. Assumes nothing.
use mathlib.Core.Path.{sym, ◌∙◌}
use lib.ListN.{get_or, drop}
use Rattle.beginning.proofs.Pieces.{is_alone, first_there, three_bytes}
use Rattle.beginning.proofs.piece_at.Goals as goal

pub returns-then-run-at : goal.returns-then-run-at
returns-then-run-at c =
    let rest = drop c.args.at c.args.run.now in
    sym (is_alone (get_or rest 0 0) (get_or rest 1 0) (get_or rest 2 0) (first_there c.args.run.now c.args.at ∙ c.if-run-at.true))

pub returns : goal.returns
returns c = three_bytes c.args.run.now c.args.at _ _ _ c.byte_at.ensures c.byte_at-2.ensures c.piece_of.ensures
