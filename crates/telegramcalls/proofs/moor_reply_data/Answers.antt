-- `telegramcalls::moor_reply_data` meets its contract: the attempt picks the buffer.
-- Assumes nothing.
use mathlib.Core.Path.{sym, ap, ◌∙◌}
use Rattle.replies.proofs.Data.{asked_first, asked_second, no_attempt}
use Rattle.boundary.specs.ForC.{part_for_c}
use Rattle.telegramcalls.proofs.moor_reply_data.Goals as goal

pub returns-then-attempt-eq1 : goal.returns-then-attempt-eq1
returns-then-attempt-eq1 c = c.part_in.ensures ∙ ap part_for_c (sym (asked_first c.args.reply_1.now c.args.reply_2.now c.args.attempt c.if-attempt-eq1.true))

pub returns-then-attempt-eq2 : goal.returns-then-attempt-eq2
returns-then-attempt-eq2 c = c.part_in-then-attempt-eq2.ensures ∙ ap part_for_c (sym (asked_second c.args.reply_1.now c.args.reply_2.now c.args.attempt c.if-attempt-eq1.false c.if-attempt-eq2.true))

pub returns : goal.returns
returns c = c.empty_start.ensures ∙ ap part_for_c (sym (no_attempt c.args.reply_1.now c.args.reply_2.now c.args.attempt c.if-attempt-eq1.false c.if-attempt-eq2.false))
