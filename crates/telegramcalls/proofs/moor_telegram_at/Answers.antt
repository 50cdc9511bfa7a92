-- `telegramcalls::moor_telegram_at` meets its contract: what the reader gives, as numbers.
-- Assumes nothing.
use mathlib.Core.Path.{◌≡◌, refl, ap, ◌∙◌}
use Rattle.telegram.specs.Telegram.{Telegram, read, unread, telegram_at}
use Rattle.telegram.specs.View.{telegram_of}
use Rattle.boundary.specs.ForC.{telegram_for_c}
use Rattle.boundary.specs.ForC.{by_value_for_c}
use Rattle.telegramcalls.proofs.moor_telegram_at.Goals as goal

by_value : (t : Telegram) → by_value_for_c (telegram_of t) ≡ telegram_for_c t
by_value (read telegram last next) = refl
by_value (unread why) = refl

pub returns : goal.returns
returns c = c.telegram_for_c.ensures ∙ ap by_value_for_c c.telegram_at.ensures ∙ by_value (telegram_at c.args.command c.args.run.now c.args.at)
