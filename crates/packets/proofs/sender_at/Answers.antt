-- `packets::sender_at` meets its contract. Assumes nothing.
use mathlib.Core.Path.{sym, ◌∙◌}
use native.Mathlib.Omega.{arith}
use Rattle.packets.proofs.ReaderOutcomes.{sender_short, sender_asked}
use Rattle.packets.proofs.sender_at.Goals as goal

pub returns-then-input-at : goal.returns-then-input-at
returns-then-input-at c = let args = c.args in sym (sender_short args.input.now args.at (omega arith))

pub returns-then-left-lt-END_LENGTH : goal.returns-then-left-lt-END_LENGTH
returns-then-left-lt-END_LENGTH c = let args = c.args in sym (sender_short args.input.now args.at (omega arith))

pub returns : goal.returns
returns c = c.is_id.ensures ∙ sender_asked c.args.input.now c.args.at (omega arith)
