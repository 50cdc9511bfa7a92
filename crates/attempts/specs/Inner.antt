-- What only private contracts need, here and in the crate above.
-- Assumes nothing.
use Rattle.std.specs.Prelude.{◌≡◌, Bool, ℕ, ◌+◌, ◌-◌, ◌≤◌, List, eqb, length, take, drop, Result, Ok, Err}
use Rattle.refusal.specs.declared.Refusal.{Refusal}
use Rattle.escapes.specs.Logical.{logicals_at}
use Rattle.checkbyte.specs.BitByBit.{check_by}
use Rattle.telegram.specs.declared.Extent.{Extent}
use Rattle.telegram.specs.Telegram.{last_of, read, telegram_at}
use Rattle.attempts.specs.declared.Acknowledge.{Acknowledge as AcknowledgeByte}
use Rattle.attempts.specs.declared.Acknowledge.TheVariants.{Positive, Negative}
use Rattle.attempts.specs.Attempt.{Acknowledge, positive, negative, invalid}

-- a telegram of these bytes is read at a position
abbrev pub Reads : Bool → List ℕ → ℕ → List ℕ → Type 0
Reads command run start telegram = (last : ℕ) × (next : ℕ) × (telegram_at command run start ≡ read telegram last next)

-- what is known of a telegram that was read from a position
pub record ReadFrom (run : List ℕ) (start : ℕ) (t : Extent) : Type 0 where
  pub command : Bool
  pub is : telegram_at command run start ≡ read (logicals_at run t.len start) t.last t.next
  pub final : last_of (logicals_at run t.len start) ≡ t.value
  pub begins : start ≤ t.last
  pub ends : t.last ≤ length run
  pub behind : t.next ≤ length run

-- the acknowledge byte at a position, or why there is none
abbrev pub acknowledge_of : Result AcknowledgeByte Refusal → ℕ → Acknowledge
acknowledge_of (Ok Positive) at = positive (at + 1)
acknowledge_of (Ok Negative) at = negative at
acknowledge_of (Err why) at = invalid why

-- whether the check byte at a place is right, by two tables
abbrev pub right_by : List ℕ → List ℕ → ℕ → List ℕ → ℕ → Bool
right_by tables run at = λ telegram check_place. eqb (check_by tables (take (check_place - at) (drop at run))) (last_of telegram)
