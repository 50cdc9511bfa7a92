-- By the eBUS tables, an attempt's check is the eBUS check.
-- Assumes nothing.
use mathlib.Core.Path.{◌≡◌, refl, sym, ap, ◌∙◌}
use mathlib.Core.Bool.{Bool, true, false}
use mathlib.Core.List.{List}
use Prim.Native.Nat.{ℕ, ◌-◌}
use lib.Dec.{eqb}
use lib.ListN.{take, drop}
use Rattle.lists.specs.Choice.{pick}
use Rattle.refusal.specs.Number.{check_wrong, at_place}
use Rattle.checkbyte.specs.BitByBit.{EbusTables}
use Rattle.checkbyte.proofs.CheckByte.{Bytes, part_bytes, by_ebus_tables}
use Rattle.telegram.specs.Telegram.{last_of, check_right, Telegram, read, unread, telegram_at}
use Rattle.telegram.proofs.TelegramRead.{checked, right_on_wire}
use Rattle.attempts.specs.Attempt.{Acknowledge, positive, negative, invalid, acknowledge_at, acknowledged, on_acknowledge, unanswered, on_telegram, ending_at, taken, failed, settled_by, attempt_at, attempt_by}
use Rattle.attempts.specs.Inner.{right_by}

-- two ways to judge the check byte that agree on a telegram agree on whatever follows it
module _ (right right' : List ℕ → ℕ → Bool) (telegram : List ℕ) (check_place : ℕ) (same : right telegram check_place ≡ right' telegram check_place) where
  settled_same : (next : ℕ) → settled_by right (acknowledged telegram check_place next) ≡ settled_by right' (acknowledged telegram check_place next)
  settled_same next = ap (λ b. pick b (taken telegram next) (failed (at_place check_wrong check_place))) same

  by_acknowledge : (a : Acknowledge) → settled_by right (on_acknowledge telegram check_place a) ≡ settled_by right' (on_acknowledge telegram check_place a)
  by_acknowledge (positive next) = settled_same next
  by_acknowledge (negative place) = refl
  by_acknowledge (invalid why) = refl

  at_once_or_by : (unanswered : Bool) (next : ℕ) (a : Acknowledge)
      → settled_by right (pick unanswered (acknowledged telegram check_place next) (on_acknowledge telegram check_place a))
      ≡ settled_by right' (pick unanswered (acknowledged telegram check_place next) (on_acknowledge telegram check_place a))
  at_once_or_by true next a = settled_same next
  at_once_or_by false next a = by_acknowledge a

module _ {tables : List ℕ} (is_tables : EbusTables tables) (command : Bool) (run : List ℕ) (at : ℕ) (each : Bytes run) where
  -- whether the check of a telegram that was read is right, by the raw bytes before its check byte
  right_by_lem : (s : List ℕ) (l x : ℕ) → telegram_at command run at ≡ read s l x → right_by tables run at s l ≡ check_right s
  right_by_lem s l x e =
      let raw = take (l - at) (drop at run) in
      ap (λ (k : ℕ). eqb k (last_of s)) (by_ebus_tables is_tables raw (part_bytes run at (l - at) each))
      ∙ sym (right_on_wire run at s l (checked command run at s l x e))

  by_telegram : (t : Telegram) → telegram_at command run at ≡ t
      → settled_by (right_by tables run at) (on_telegram command run t) ≡ settled_by (λ telegram check_place. check_right telegram) (on_telegram command run t)
  by_telegram (read s l x) e =
      at_once_or_by (right_by tables run at) (λ telegram check_place. check_right telegram) s l (right_by_lem s l x e) (unanswered command s) x (acknowledge_at run x)
  by_telegram (unread why) e = refl

  pub by_ebus : attempt_by tables command run at ≡ attempt_at command run at
  unfolding attempt_by attempt_at ending_at
  by_ebus = by_telegram (telegram_at command run at) refl
