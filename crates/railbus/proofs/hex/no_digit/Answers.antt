-- `railbus::hex::no_digit` meets its contract. Assumes nothing.
use mathlib.Core.Path.{◌≡◌, refl, sym, ◌∙◌}
use native.Mathlib.Omega.{arith}
use lib.ListN.{length}
use Rattle.railbus.proofs.Digits.{walk_on, walk_ends, walk_over}
use Rattle.railbus.proofs.hex.no_digit.Goals as goal

pub loop-at-init : goal.loop-at-init
loop-at-init c = refl

pub returns-then-is_wrong : goal.returns-then-is_wrong
returns-then-is_wrong c = sym (walk_ends c.args.input.now c.loop-at.at c.loop-at.invariant (omega arith) (sym c.is_wrong.ensures ∙ c.if-is_wrong.true))

pub loop-at-preserved : goal.loop-at-preserved
loop-at-preserved c = walk_on c.args.input.now c.loop-at.at c.loop-at.invariant (omega arith) (sym c.is_wrong.ensures ∙ c.if-is_wrong.false)

pub returns : goal.returns
returns c =
    let all : length c.args.input.now ≡ c.loop-at.at = omega arith in
    all ∙ sym (walk_over c.args.input.now c.loop-at.at c.loop-at.invariant (omega arith))
