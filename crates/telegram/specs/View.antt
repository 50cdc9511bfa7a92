-- How a telegram shows in the answers of the public functions: Ok where it was read whole, and else why it can't be read.
-- Assumes nothing.
use Rattle.std.specs.Prelude.{List, ℕ, length, replicate, Result, Ok, Err}
use Rattle.lists.specs.Starting.{starting}
use Rattle.refusal.specs.declared.Refusal.{Refusal}
use Rattle.telegram.specs.declared.Extent.{Extent}
use Rattle.telegram.specs.declared.Telegram.{Telegram as TelegramStruct}
use Rattle.telegram.specs.Telegram.{command_room, last_of, Telegram, read, unread}

-- how far it reaches: how many bytes, the last of them, its place, and the position behind it
abbrev pub extent_of : Telegram → Result Extent Refusal
extent_of (read telegram last next) = Ok (record { len = length telegram; value = last_of telegram; last = last; next = next })
extent_of (unread why) = Err why

-- by value: its bytes, and zeros behind them
abbrev pub in_room : List ℕ → List ℕ
in_room telegram = starting telegram (replicate command_room 0)

abbrev pub telegram_of : Telegram → Result TelegramStruct Refusal
telegram_of (read telegram last next) = Ok (record { bytes = in_room telegram; len = length telegram; last = last; next = next })
telegram_of (unread why) = Err why
