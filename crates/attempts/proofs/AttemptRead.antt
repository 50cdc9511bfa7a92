-- What an attempt says of the run: what was taken was read where it starts, and a NACK's FF is the byte that decides.
-- Assumes nothing.
use Rattle.std.specs.Prelude.{Result, Ok}
use mathlib.Core.Path.{◌≡◌, refl, sym, ap, ◌∙◌, subst}
use mathlib.Core.Bool.{Bool, true, false}
use mathlib.Core.List.{List}
use Prim.Native.Nat.{ℕ, ◌+◌, ◌-◌}
use Rattle.lists.specs.Choice.{pick}
use Rattle.lists.proofs.Cases.{pick_cases}
use Rattle.refusal.specs.declared.Refusal.{Refusal}
use Rattle.escapes.specs.Logical.{logicals_at}
use Rattle.checkbyte.specs.BitByBit.{EbusTables}
use Rattle.checkbyte.proofs.CheckByte.{Bytes}
use Rattle.telegram.specs.Telegram.{Telegram, read, unread, check_right, telegram_at}
use Rattle.attempts.specs.Attempt.{Acknowledge, positive, negative, invalid, acknowledge_at, acknowledged, on_acknowledge, unanswered, on_telegram, ending_at, Attempt, taken, nacked, failed, settled_by, attempt_at, attempt_by}
use Rattle.attempts.specs.Looks.{looked_by, looked_at}
use Rattle.attempts.specs.View.{attempt_as, ended_as, attempt_of}
use Rattle.attempts.specs.Inner.{Reads}
use Rattle.attempts.specs.declared.Attempt.{Attempt as AttemptStruct}
use Rattle.attempts.specs.declared.Ended.{Ended as EndedStruct}
use Rattle.attempts.proofs.FromRun.{negative_there}
use Rattle.attempts.proofs.ByTables.{by_ebus}

abbrev right : List ℕ → ℕ → Bool
right telegram check_place = check_right telegram

-- ---- what was taken was read where the attempt starts

abbrev TakenRead : Bool → List ℕ → ℕ → Attempt → Type 0
TakenRead command run at (taken s next) = Reads command run at s
TakenRead command run at (nacked s place) = Unit {0}
TakenRead command run at (failed why) = Unit {0}

module _ (command : Bool) (run : List ℕ) (at : ℕ) where
  module _ (s : List ℕ) (check_place : ℕ) (reads : Reads command run at s) where
    settled_read : (next : ℕ) → TakenRead command run at (settled_by right (acknowledged s check_place next))
    settled_read next = pick_cases (TakenRead command run at) (check_right s) _ _ (λ _. reads) (λ _. tt)

    acknowledge_read : (a : Acknowledge) → TakenRead command run at (settled_by right (on_acknowledge s check_place a))
    acknowledge_read (positive next) = settled_read next
    acknowledge_read (negative place) = tt
    acknowledge_read (invalid why) = tt

  telegram_read : (t : Telegram) → telegram_at command run at ≡ t → TakenRead command run at (settled_by right (on_telegram command run t))
  telegram_read (unread why) e = tt
  telegram_read (read s check_place next) e =
      let reads : Reads command run at s = (check_place, next, e) in
      pick_cases (λ x. TakenRead command run at (settled_by right x)) (unanswered command s) _ _ (λ _. settled_read s check_place reads next)
      (λ _. acknowledge_read s check_place reads (acknowledge_at run next))

  pub taken_read : (s : List ℕ) (next : ℕ) → attempt_at command run at ≡ taken s next → Reads command run at s
  unfolding attempt_at ending_at
  taken_read s next e = subst (TakenRead command run at) e (telegram_read (telegram_at command run at) refl)

-- ---- an attempt that was NACKed looks no further than the FF

abbrev NackLast : ℕ → Attempt → Type 0
NackLast looked (taken s next) = Unit {0}
NackLast looked (nacked s place) = looked ≡ place + 1
NackLast looked (failed why) = Unit {0}

module _ (run s : List ℕ) (check_place next : ℕ) where
  not_nacked : (looked behind : ℕ) → NackLast looked (settled_by right (acknowledged s check_place behind))
  not_nacked looked behind = pick_cases (NackLast looked) (check_right s) _ _ (λ _. tt) (λ _. tt)

  by_acknowledge : (a : Acknowledge) → acknowledge_at run next ≡ a → NackLast (next + 1) (settled_by right (on_acknowledge s check_place a))
  by_acknowledge (positive behind) e = not_nacked (next + 1) behind
  by_acknowledge (negative place) e = ap (λ (k : ℕ). k + 1) (sym (negative_there run next place e))
  by_acknowledge (invalid why) e = tt

  by_answer : (b : Bool)
      → NackLast (pick b next (next + 1)) (settled_by right (pick b (acknowledged s check_place next) (on_acknowledge s check_place (acknowledge_at run next))))
  by_answer true = not_nacked next next
  by_answer false = by_acknowledge (acknowledge_at run next) refl

by_telegram : (command : Bool) (run : List ℕ) (t : Telegram) → NackLast (looked_by command run t) (settled_by right (on_telegram command run t))
by_telegram command run (unread why) = tt
by_telegram command run (read s check_place next) = by_answer run s check_place next (unanswered command s)

pub nack_last : (command : Bool) (run : List ℕ) (at : ℕ) (s : List ℕ) (place : ℕ) → attempt_at command run at ≡ nacked s place → looked_at command run at ≡ place + 1
unfolding attempt_at ending_at looked_at
nack_last command run at s place e = subst (NackLast (looked_at command run at)) e (by_telegram command run (telegram_at command run at))

-- ---- an answer of `attempt_at`, by the eBUS tables

module _ {tables : List ℕ} (is_tables : EbusTables tables) (command : Bool) (run : List ℕ) (at : ℕ) (each : Bytes run) (a : AttemptStruct) (is : attempt_of a run at ≡ attempt_by tables command run at) where
  pub attempt_told : (ended : Result EndedStruct Refusal) → a.ended ≡ ended → attempt_at command run at ≡ ended_as ended a.next run at
  attempt_told ended told =
      sym (by_ebus is_tables command run at each) ∙ sym is ∙ ap (λ (x : Result EndedStruct Refusal). ended_as x a.next run at) told

  pub ended_told : (ended : EndedStruct) → a.ended ≡ Ok ended → (which : Bool) → ended.taken ≡ which
      → attempt_at command run at ≡ attempt_as (logicals_at run ended.len at) a.next which
  ended_told ended told which is_that = attempt_told (Ok ended) told ∙ ap (attempt_as (logicals_at run ended.len at) a.next) is_that

  -- the FF of a NACK is the byte before
  pub nack_told : a.next ≡ looked_at command run at → (ended : EndedStruct) → a.ended ≡ Ok ended → ended.taken ≡ false → a.next ≡ a.next - 1 + 1
  nack_told looked ended told which =
      looked ∙ nack_last command run at (logicals_at run ended.len at) (a.next - 1) (ended_told ended told false which)
