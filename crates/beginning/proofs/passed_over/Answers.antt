-- `beginning::passed_over` meets its contract: the end of the piece in hand, and then the run's own beginning. Assumes nothing.
use mathlib.Core.Path.{sym, ap, ◌∙◌}
use Prim.Native.Nat.{ℕ, ◌+◌}
use native.Mathlib.Omega.{arith}
use lib.ListN.{drop, length-drop}
use Rattle.beginning.specs.Beginning.{command_start}
use Rattle.beginning.proofs.Begun.{start_size, passed_none, passed_some, passed_within, passed_part}
use Rattle.beginning.proofs.passed_over.Goals as goal

pub returns-then-n-eq0 : goal.returns-then-n-eq0
returns-then-n-eq0 c = sym (passed_none c.args.hand.now c.args.run.now c.piece_behind-n.result c.piece_behind-n.ensures c.if-n-eq0.true)

pub slice_bounds-command_start-count : goal.slice_bounds-command_start-count
slice_bounds-command_start-count c = passed_within c.args.hand.now c.args.run.now c.piece_behind-n.result c.piece_behind-n.ensures

pub slice_bounds-command_start-start : goal.slice_bounds-command_start-start
slice_bounds-command_start-start c = passed_within c.args.hand.now c.args.run.now c.piece_behind-n.result c.piece_behind-n.ensures

pub overflow_add-result : goal.overflow_add-result
overflow_add-result c =
    let run = c.args.run.now in
    let n = c.piece_behind-n.result in
    let within = passed_within c.args.hand.now run n c.piece_behind-n.ensures in
    let is = c.command_start.ensures ∙ ap command_start (passed_part c.args.hand.now run n c.piece_behind-n.ensures) in
    omega (arith, within, is, start_size (drop n run), length-drop n run)

pub returns : goal.returns
returns c =
    let hand = c.args.hand.now in
    let run = c.args.run.now in
    let n = c.piece_behind-n.result in
    ap (λ (k : ℕ). n + k) (c.command_start.ensures ∙ ap command_start (passed_part hand run n c.piece_behind-n.ensures))
    ∙ sym (passed_some hand run n c.piece_behind-n.ensures c.if-n-eq0.false)
