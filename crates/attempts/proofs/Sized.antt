-- How many bytes the telegram of an attempt has: more than its head, and no more than its buffer holds.
-- Assumes nothing.
use mathlib.Core.Path.{◌≡◌, refl}
use mathlib.Core.Bool.{Bool, true, false}
use mathlib.Core.List.{List, []}
use Prim.Native.Nat.{ℕ, ◌≤◌, ◌<◌}
use lib.ListN.{length}
use Rattle.lists.proofs.Cases.{pick_cases}
use Rattle.escapes.specs.Logical.{run_over, logical_at}
use Rattle.telegram.specs.Telegram.{head_of, room_of, check_right, Telegram, read, unread, collected, telegram_at}
use Rattle.telegram.proofs.TelegramOnWire.{stood, whole_longer}
use Rattle.telegram.proofs.TelegramRead.{telegram_room}
use Rattle.attempts.specs.Attempt.{Acknowledge, positive, negative, invalid, acknowledge_at, Ending, acknowledged, on_acknowledge, unanswered, on_telegram, ending_at, Attempt, taken, nacked, failed, settled_by, attempt_at}

abbrev pub Sized : Bool → List ℕ → Type 0
Sized command telegram = (head_of command < length telegram) × (length telegram ≤ room_of command)

abbrev pub AttemptSized : Bool → Attempt → Type 0
AttemptSized command (taken telegram next) = Sized command telegram
AttemptSized command (nacked telegram place) = Sized command telegram
AttemptSized command (failed why) = Unit {0}

module _ (command : Bool) (run : List ℕ) (at : ℕ) where
  abbrev judged : Ending → Attempt
  judged = settled_by (λ telegram check_place. check_right telegram)

  settled_sized : (telegram : List ℕ) (check_place next : ℕ) → Sized command telegram → AttemptSized command (judged (acknowledged telegram check_place next))
  settled_sized telegram check_place next size = pick_cases (AttemptSized command) (check_right telegram) _ _ (λ _. size) (λ _. tt)

  by_acknowledge : (telegram : List ℕ) (check_place : ℕ) → Sized command telegram → (a : Acknowledge) → AttemptSized command (judged (on_acknowledge telegram check_place a))
  by_acknowledge telegram check_place size (positive next) = settled_sized telegram check_place next size
  by_acknowledge telegram check_place size (negative place) = size
  by_acknowledge telegram check_place size (invalid why) = tt

  by_telegram : (t : Telegram) → telegram_at command run at ≡ t → AttemptSized command (judged (on_telegram command run t))
  by_telegram (read telegram check_place next) e =
      let size : Sized command telegram = (whole_longer command telegram (stood command run at telegram check_place next e).whole, telegram_room command run at telegram check_place next e) in
      pick_cases (λ (x : Ending). AttemptSized command (judged x)) (unanswered command telegram) _ _ (λ _. settled_sized telegram check_place next size)
      (λ _. by_acknowledge telegram check_place size (acknowledge_at run next))
  by_telegram (unread why) e = tt

  pub attempt_sized : AttemptSized command (attempt_at command run at)
  unfolding attempt_at ending_at
  attempt_sized = by_telegram (telegram_at command run at) refl

-- nothing is decided before the first byte
pub attempt_none : (command : Bool) → attempt_at command [] 0 ≡ failed (run_over [])
unfolding attempt_at ending_at telegram_at collected logical_at
attempt_none true = refl
attempt_none false = refl
