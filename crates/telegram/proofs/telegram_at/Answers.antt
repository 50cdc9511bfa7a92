-- `telegram::telegram_at` meets its contract: the bytes of a telegram that was read are put in front of zeros.
-- Assumes nothing.
use mathlib.Core.Path.{refl, ◌∙◌}
use Rattle.refusal.proofs.Exit.{exits}
use Rattle.telegram.specs.Telegram.{telegram_at}
use Rattle.telegram.proofs.TelegramRead.{by_value, unread_by_value}
use Rattle.telegram.proofs.telegram_at.Goals as goal

pub returns-in_err-t : goal.returns-in_err-t
returns-in_err-t c =
    exits c.from_residual.result c.in_err-t.field-0.0 c.from_residual.ensures.1
    ∙ unread_by_value (telegram_at c.args.command c.args.run.now c.args.at) _ c.in_err-t.ensures

pub returns : goal.returns
returns c =
    by_value c.args.command c.args.run.now c.args.at _ refl c.in_ok-t.t c.in_ok-t.ensures _ c.put_logical.ensures
