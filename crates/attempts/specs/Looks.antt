-- How far an attempt looks: the position behind the byte that decides it. What listens to bytes as they arrive stops there.
-- Assumes nothing.
use Rattle.std.specs.Prelude.{ℕ, ◌+◌, Bool, List, eqb, leb, get_or}
use Rattle.lists.specs.Choice.{pick}
use Rattle.refusal.specs.Number.{source_wrong}
use Rattle.refusal.specs.declared.Refusal.{Refusal}
use Rattle.escapes.specs.Escape.{esc}
use Rattle.telegram.specs.Telegram.{Telegram, read, unread, telegram_at}
use Rattle.attempts.specs.Attempt.{unanswered}

-- a fault of a field is known once its byte is whole, which takes two raw bytes where it is escaped; any other refusal at the
-- byte that it names; of number 3 that is the one that is missing, behind the run's end
abbrev pub known_behind : List ℕ → Refusal → ℕ
known_behind run why = why.place + 1 + pick (leb source_wrong why.number) (pick (eqb (get_or run why.place 0) esc) 1 0) 0

-- an attempt is decided by its acknowledge byte, a broadcast by its check byte
abbrev pub looked_by : Bool → List ℕ → Telegram → ℕ
looked_by command run (read telegram check_place next) = pick (unanswered command telegram) next (next + 1)
looked_by command run (unread why) = known_behind run why

unfoldable pub looked_at : Bool → List ℕ → ℕ → ℕ
looked_at command run at = looked_by command run (telegram_at command run at)
