-- Each answer of writers and of eBUS as a struct that C can take. It holds the answer's numbers by their names: rule N1's
-- number, 0 where nothing is refused, its place, and the values, of which one that is not there is 0.
-- Assumes nothing.
use Rattle.std.specs.Prelude.{ℕ, length, replicate, Result, Ok, Err}
use Rattle.lists.specs.Starting.{starting}
use Rattle.refusal.specs.Numbers.{Numbers, value, written_numbers}
use Rattle.refusal.specs.declared.Refusal.{Refusal}
use Rattle.escapes.specs.Logical.{logical_numbers}
use Rattle.telegram.specs.Telegram.{Telegram, read, unread}
use Rattle.replies.specs.Data.{Part}
use Rattle.telegram.specs.declared.Telegram.{Telegram as ByValue}
use Rattle.exchange.specs.View.{judged_numbers}
use Rattle.exchange.specs.declared.judge.Accepted.{Accepted}
use Rattle.boundary.specs.declared.MoorWritten.{MoorWritten}
use Rattle.boundary.specs.declared.MoorLogical.{MoorLogical}
use Rattle.boundary.specs.declared.MoorTelegram.{MoorTelegram}
use Rattle.boundary.specs.declared.MoorPart.{MoorPart}
use Rattle.boundary.specs.declared.MoorJudged.{MoorJudged}

-- how many bytes were written
abbrev pub length_for_c : Numbers → MoorWritten
length_for_c n = record { number = n.number; place = n.place; length = value n 0 }

abbrev pub written_for_c : Result ℕ Refusal → MoorWritten
written_for_c x = length_for_c (written_numbers x)

abbrev pub logical_for_c : Result (ℕ × ℕ) Refusal → MoorLogical
logical_for_c x =
    let n = logical_numbers x in
    record { number = n.number; byte = value n 0; place = n.place; next = value n 1 }

-- 22 bytes that start with the telegram's; the others are 0
abbrev pub telegram_for_c : Telegram → MoorTelegram
telegram_for_c (read bs last next) =
    record { number = 0; place = 0; length = length bs; last = last; next = next; bytes = starting bs (replicate 22 0) }
telegram_for_c (unread why) =
    record { number = why.number; place = why.place; length = 0; last = 0; next = 0; bytes = replicate 22 0 }

-- the same of what the reader gives
abbrev pub by_value_for_c : Result ByValue Refusal → MoorTelegram
by_value_for_c (Ok t) =
    record { number = 0; place = 0; length = t.len; last = t.last; next = t.next; bytes = t.bytes }
by_value_for_c (Err why) =
    record { number = why.number; place = why.place; length = 0; last = 0; next = 0; bytes = replicate 22 0 }

-- a part of a reply buffer: C cannot take a part of a slice
abbrev pub part_for_c : Part → MoorPart
part_for_c part = record { attempt = part.attempt; start = part.start; length = part.size }

abbrev pub judged_for_c : Result Accepted Refusal → MoorJudged
judged_for_c x =
    let n = judged_numbers x in
    record { number = n.number; kind = value n 0; command_attempts = value n 1; reply_attempts = value n 2; place = n.place; read = value n 3 }
