-- `beginning::piece_of` meets its contract: each answer is a piece by the tests that led there. A9, which is no initiator's address,
-- begins a piece only before SYN. Assumes nothing.
use mathlib.Core.Path.{◌≡◌, sym}
use native.Mathlib.Omega.{arith}
use Rattle.escapes.specs.Escape.{syn}
use Rattle.beginning.proofs.Pieces.{none_escape}
use Rattle.beginning.proofs.piece_of.Goals as goal

pub returns-then-first-eq-ESC : goal.returns-then-first-eq-ESC
returns-then-first-eq-ESC c =
    let other : c.args.second ≡ syn → ⊥ = λ e. omega arith in
    sym (none_escape c.args.first c.args.second c.args.third c.if-first-eq-ESC.true other)
