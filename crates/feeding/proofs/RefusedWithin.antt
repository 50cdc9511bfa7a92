-- An attempt that is refused is refused at a place of the run, or at its end.
-- Assumes nothing.
use mathlib.Core.Path.{◌≡◌, refl, subst}
use mathlib.Core.Bool.{Bool}
use mathlib.Core.List.{List}
use Prim.Native.Nat.{ℕ, ◌≤◌, ◌<◌}
use native.Mathlib.Omega.{arith}
use lib.Dec.{eqb, ltb}
use lib.ListN.{length, get_or}
use borrow.Author.Tests.{ltb-true}
use Rattle.lists.proofs.Cases.{pick_cases}
use Rattle.refusal.specs.declared.Refusal.{Refusal}
use Rattle.escapes.specs.Escape.{syn}
use Rattle.telegram.specs.Telegram.{check_right, Telegram, read, unread, telegram_at}
use Rattle.telegram.proofs.TelegramRead.{checked}
use Rattle.telegram.proofs.RefusedPlace.{refused_within}
use Rattle.attempts.specs.Attempt.{ack, nack, Acknowledge, positive, negative, invalid, acknowledge_at, acknowledged, on_acknowledge, unanswered, on_telegram, ending_at, Attempt, taken, nacked, failed, settled_by, attempt_at}

abbrev AcknowledgeWithin : ℕ → Acknowledge → Type 0
AcknowledgeWithin n (positive next) = Unit {0}
AcknowledgeWithin n (negative place) = Unit {0}
AcknowledgeWithin n (invalid why) = why.place ≤ n

acknowledge_within : (run : List ℕ) (at : ℕ) → AcknowledgeWithin (length run) (acknowledge_at run at)
unfolding acknowledge_at
acknowledge_within run at =
    let x = get_or run at 0 in
    let W = AcknowledgeWithin (length run) in
    pick_cases W (ltb at (length run)) _ _
    (λ t.
    let h : at < length run = ltb-true at (length run) t in
    pick_cases W (eqb x ack) _ _ (λ _. tt)
    (λ _. pick_cases W (eqb x nack) _ _ (λ _. tt) (λ _. pick_cases W (eqb x syn) _ _ (λ _. omega arith) (λ _. omega arith))))
    (λ _. omega arith)

abbrev Within : ℕ → Attempt → Type 0
Within n (taken telegram next) = Unit {0}
Within n (nacked telegram place) = Unit {0}
Within n (failed why) = why.place ≤ n

module _ (command : Bool) (run : List ℕ) (at : ℕ) (begins : at ≤ length run) where
  abbrev right : List ℕ → ℕ → Bool
  right telegram check_place = check_right telegram

  -- a wrong check byte is named by its place
  settled_within : (telegram : List ℕ) (check_place next : ℕ) → check_place ≤ length run → Within (length run) (settled_by right (acknowledged telegram check_place next))
  settled_within telegram check_place next h = pick_cases (Within (length run)) (check_right telegram) _ _ (λ _. tt) (λ _. h)

  by_acknowledge : (telegram : List ℕ) (check_place : ℕ) → check_place ≤ length run → (a : Acknowledge) → AcknowledgeWithin (length run) a
      → Within (length run) (settled_by right (on_acknowledge telegram check_place a))
  by_acknowledge telegram check_place h (positive next) w = settled_within telegram check_place next h
  by_acknowledge telegram check_place h (negative place) w = tt
  by_acknowledge telegram check_place h (invalid why) w = w

  by_telegram : (t : Telegram) → telegram_at command run at ≡ t → Within (length run) (settled_by right (on_telegram command run t))
  by_telegram (read telegram check_place next) e =
      let h : check_place ≤ length run = (checked command run at telegram check_place next e).within begins in
      pick_cases (λ x. Within (length run) (settled_by right x)) (unanswered command telegram) _ _ (λ _. settled_within telegram check_place next h)
      (λ _. by_acknowledge telegram check_place h (acknowledge_at run next) (acknowledge_within run next))
  by_telegram (unread why) e = (refused_within command run at why e).0

  pub attempt_within : (why : Refusal) → attempt_at command run at ≡ failed why → why.place ≤ length run
  unfolding attempt_at ending_at
  attempt_within why e = subst (Within (length run)) e (by_telegram (telegram_at command run at) refl)
