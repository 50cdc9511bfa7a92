-- `beginning::command_start` meets its contract. Assumes nothing.
use mathlib.Core.Path.{◌≡◌, sym, ◌∙◌}
use native.Mathlib.Nat.{zero-add}
use native.Mathlib.Omega.{arith}
use lib.ListN.{drop, length-drop}
use Rattle.beginning.specs.Beginning.{command_start}
use Rattle.beginning.proofs.Pieces.{piece_size}
use Rattle.beginning.proofs.Begun.{pass, pass_ends, pass_all}
use Rattle.beginning.proofs.command_start.Goals as goal

pub loop-at-init : goal.loop-at-init
loop-at-init c = (omega arith, sym (zero-add (command_start c.args.run.now)))

pub piece_at-n-requires : goal.piece_at-n-requires
piece_at-n-requires c = c.loop-at-test.true

pub returns-then-n-eq0 : goal.returns-then-n-eq0
returns-then-n-eq0 c = pass_ends c.args.run.now c.loop-at.at c.loop-at.invariant.1 (sym c.piece_at-n.ensures ∙ c.if-n-eq0.true)

pub overflow_add-at : goal.overflow_add-at
overflow_add-at c =
    let run = c.args.run.now in
    let at = c.loop-at.at in
    omega (arith, c.loop-at-test.true, c.piece_at-n.ensures, piece_size (drop at run), length-drop at run)

pub loop-at-smaller : goal.loop-at-smaller
loop-at-smaller c = omega arith

pub loop-at-preserved : goal.loop-at-preserved
loop-at-preserved c =
    let run = c.args.run.now in
    let at = c.loop-at.at in
    let some : c.piece_at-n.result ≡ 0 → ⊥ = λ e. omega arith in
    (omega (arith, c.loop-at-test.true, c.piece_at-n.ensures, piece_size (drop at run), length-drop at run), pass run at c.piece_at-n.result c.loop-at.invariant.1 c.piece_at-n.ensures some)

pub returns : goal.returns
returns c = pass_all c.args.run.now c.loop-at.at c.loop-at.invariant.1 c.loop-at-test.false
