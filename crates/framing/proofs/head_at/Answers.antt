-- `framing::head_at` meets its contract: its tests are those of the definition, in the same order, and behind the end of the
-- input nothing is left. Assumes nothing.
use mathlib.Core.Path.{sym, ◌∙◌}
use native.Mathlib.Omega.{arith}
use Rattle.framing.proofs.HeadCheck.{head_short, head_first, head_second}
use Rattle.framing.proofs.head_at.Goals as goal

pub returns-then-input-at : goal.returns-then-input-at
returns-then-input-at c =
    let args = c.args in
    c.refused.ensures ∙ sym (head_short args.one args.other args.input.now args.at (omega arith))

pub returns-then-left-lt-END_LENGTH : goal.returns-then-left-lt-END_LENGTH
returns-then-left-lt-END_LENGTH c =
    let args = c.args in
    c.refused-then-left-lt-END_LENGTH.ensures ∙ sym (head_short args.one args.other args.input.now args.at (omega arith))

pub returns-then-input-at-2 : goal.returns-then-input-at-2
returns-then-input-at-2 c =
    let args = c.args in
    c.refused-then-input-at-2.ensures ∙ sym (head_first args.one args.other args.input.now args.at (omega arith) c.if-input-at-2.true)

pub returns-then-input-at-ne-EXTENDED : goal.returns-then-input-at-ne-EXTENDED
returns-then-input-at-ne-EXTENDED c =
    let args = c.args in
    c.refused-then-input-at-ne-EXTENDED.ensures ∙ sym (head_second args.one args.other args.input.now args.at (omega arith) c.if-input-at-2.false c.if-input-at-ne-EXTENDED.true)
