-- A longer run: an attempt that is decided is the same when more bytes follow.
-- Assumes nothing.
use mathlib.Core.Bool.{Bool}
use mathlib.Core.List.{List, ◌++◌}
use Prim.Native.Nat.{ℕ, ◌+◌}
use native.Mathlib.Omega.{arith}
use lib.Dec.{eqb}
use Rattle.lists.specs.Choice.{pick}
use Rattle.lists.proofs.Cases.{pick_cases}
use Rattle.refusal.specs.Number.{syn_early, bus_error, at_place}
use Rattle.escapes.specs.Escape.{syn}
use Rattle.escapes.specs.Logical.{run_over}
use Rattle.escapes.proofs.LongerRun.{Stays, OtherRefusal, stays_same, stays_on, stays_pick, stays_byte}
use Rattle.telegram.specs.Telegram.{check_right, Telegram, read, unread, telegram_at}
use Rattle.telegram.proofs.LongerRun.{OtherTelegram, telegram_stays}
use Rattle.attempts.specs.Attempt.{ack, nack, Acknowledge, positive, negative, invalid, acknowledge_at, Ending, acknowledged, refused, broken, on_acknowledge, unanswered, on_telegram, ending_at, Attempt, taken, nacked, failed, settled_by, attempt_at}

-- ---- no refusal with number 3, for each kind of answer

abbrev pub OtherAcknowledge : Acknowledge → Type 0
OtherAcknowledge (positive next) = Unit {0}
OtherAcknowledge (negative place) = Unit {0}
OtherAcknowledge (invalid why) = OtherRefusal why

abbrev pub OtherEnding : Ending → Type 0
OtherEnding (acknowledged telegram check_place next) = Unit {0}
OtherEnding (refused telegram place) = Unit {0}
OtherEnding (broken why) = OtherRefusal why

abbrev pub OtherAttempt : Attempt → Type 0
OtherAttempt (taken telegram next) = Unit {0}
OtherAttempt (nacked telegram place) = Unit {0}
OtherAttempt (failed why) = OtherRefusal why

-- the steps that do not look at the run; the check byte's refusal is 9

by_acknowledge : (telegram : List ℕ) (check_place : ℕ) (a : Acknowledge) → OtherAcknowledge a → OtherEnding (on_acknowledge telegram check_place a)
by_acknowledge telegram check_place (positive next) h = tt
by_acknowledge telegram check_place (negative place) h = tt
by_acknowledge telegram check_place (invalid why) h = h

pub settled_other : (right : List ℕ → ℕ → Bool) (e : Ending) → OtherEnding e → OtherAttempt (settled_by right e)
settled_other right (acknowledged telegram check_place next) h = pick_cases OtherAttempt (right telegram check_place) _ _ (λ _. tt) (λ _ e. omega arith)
settled_other right (refused telegram place) h = tt
settled_other right (broken why) h = h

module _ (run more : List ℕ) where
  acknowledge_stays : (at : ℕ) → Stays OtherAcknowledge (invalid (run_over run)) (acknowledge_at run at) (acknowledge_at (run ++ more) at)
  unfolding acknowledge_at
  acknowledge_stays at =
      let f : ℕ → Acknowledge =
      λ b. pick (eqb b ack) (positive (at + 1)) (pick (eqb b nack) (negative at) (pick (eqb b syn) (invalid (at_place syn_early at)) (invalid (at_place bus_error at)))) in
      stays_byte OtherAcknowledge run more at (invalid (run_over run)) (invalid (run_over (run ++ more))) f f
      (λ b.
      stays_same OtherAcknowledge (invalid (run_over run)) (f b)
      (pick_cases OtherAcknowledge (eqb b ack) _ _ (λ _. tt)
      (λ _. pick_cases OtherAcknowledge (eqb b nack) _ _ (λ _. tt)
      (λ _. pick_cases OtherAcknowledge (eqb b syn) _ _ (λ _ e. omega arith) (λ _ e. omega arith)))))

  by_telegram : (command : Bool) (t : Telegram) → OtherTelegram t
      → Stays OtherEnding (broken (run_over run)) (on_telegram command run t) (on_telegram command (run ++ more) t)
  by_telegram command (read telegram check_place next) h =
      let at_once = acknowledged telegram check_place next in
      stays_pick OtherEnding (broken (run_over run)) at_once at_once _ _ (unanswered command telegram)
      (stays_same OtherEnding (broken (run_over run)) at_once tt)
      (stays_on OtherAcknowledge OtherEnding (on_acknowledge telegram check_place) (on_acknowledge telegram check_place) (invalid (run_over run)) (acknowledge_at run next) (acknowledge_at (run ++ more) next)
      (λ a o. stays_same OtherEnding (broken (run_over run)) (on_acknowledge telegram check_place a) (by_acknowledge telegram check_place a o)) (acknowledge_stays next))
  by_telegram command (unread why) h = stays_same OtherEnding (broken (run_over run)) (broken why) h

  ending_stays : (command : Bool) (at : ℕ) → Stays OtherEnding (broken (run_over run)) (ending_at command run at) (ending_at command (run ++ more) at)
  unfolding ending_at
  ending_stays command at =
      stays_on OtherTelegram OtherEnding (on_telegram command run) (on_telegram command (run ++ more)) (unread (run_over run))
      (telegram_at command run at) (telegram_at command (run ++ more) at) (by_telegram command) (telegram_stays run more command at)

  pub attempt_stays : (command : Bool) (at : ℕ) → Stays OtherAttempt (failed (run_over run)) (attempt_at command run at) (attempt_at command (run ++ more) at)
  unfolding attempt_at
  attempt_stays command at =
      let right : List ℕ → ℕ → Bool = λ telegram check_place. check_right telegram in
      stays_on OtherEnding OtherAttempt (settled_by right) (settled_by right) (broken (run_over run))
      (ending_at command run at) (ending_at command (run ++ more) at)
      (λ e o. stays_same OtherAttempt (failed (run_over run)) (settled_by right e) (settled_other right e o)) (ending_stays command at)
