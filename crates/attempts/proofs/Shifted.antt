-- Bytes in front: an attempt behind some other bytes is the attempt without them, with every position so much later.
-- Assumes nothing.
use Rattle.std.specs.Prelude.{Result, Ok, Err}
use Rattle.refusal.specs.declared.Refusal.{Refusal}
use mathlib.Core.Path.{◌≡◌, refl, ap, ◌∙◌}
use mathlib.Core.Bool.{Bool}
use mathlib.Core.List.{List, [], ◌∷◌, ◌++◌}
use Prim.Native.Nat.{ℕ, zero, suc, ◌+◌}
use native.Mathlib.Omega.{arith}
use lib.Dec.{eqb}
use lib.ListN.{length, get_or}
use Rattle.lists.specs.Choice.{pick}
use Rattle.refusal.specs.Number.{syn_early, bus_error, at_place}
use Rattle.escapes.specs.Escape.{syn}
use Rattle.escapes.specs.Logical.{logical_at}
use Rattle.escapes.proofs.Shifted.{later_refusal, later_byte, later_pick, later_over, later_byte_lem, later_logical}
use Rattle.telegram.specs.Telegram.{head_of, length_place, check_right, Field, field_at, fault_of, Telegram, read, unread, on_byte, collected, on_head, telegram_at}
use Rattle.attempts.specs.Attempt.{ack, nack, Acknowledge, positive, negative, invalid, acknowledge_at, Ending, acknowledged, refused, broken, on_acknowledge, unanswered, on_telegram, ending_at, Attempt, taken, nacked, failed, settled_by, attempt_at}

-- ---- each kind of answer, k positions later

abbrev later_telegram : ℕ → Telegram → Telegram
later_telegram k (read telegram last next) = read telegram (k + last) (k + next)
later_telegram k (unread why) = unread (later_refusal k why)

abbrev later_acknowledge : ℕ → Acknowledge → Acknowledge
later_acknowledge k (positive next) = positive (k + next)
later_acknowledge k (negative place) = negative (k + place)
later_acknowledge k (invalid why) = invalid (later_refusal k why)

abbrev later_ending : ℕ → Ending → Ending
later_ending k (acknowledged telegram check_place next) = acknowledged telegram (k + check_place) (k + next)
later_ending k (refused telegram place) = refused telegram (k + place)
later_ending k (broken why) = broken (later_refusal k why)

abbrev pub later_attempt : ℕ → Attempt → Attempt
later_attempt k (taken telegram next) = taken telegram (k + next)
later_attempt k (nacked telegram place) = nacked telegram (k + place)
later_attempt k (failed why) = failed (later_refusal k why)

-- ---- a telegram

module _ (before run : List ℕ) (command : Bool) where
  on_byte_lem : (field : Field) (at : ℕ) (rest rest' : ℕ → ℕ → Telegram) → ((b next : ℕ) → rest' b (length before + next) ≡ later_telegram (length before) (rest b next))
      → (l : Result (ℕ × ℕ) Refusal) → on_byte field (length before + at) (later_byte (length before) l) rest' ≡ later_telegram (length before) (on_byte field at l rest)
  on_byte_lem field at rest rest' each (Ok (b, next)) = later_pick (later_telegram (length before)) (eqb (fault_of field b) 0) (each b next) refl
  on_byte_lem field at rest rest' each (Err why) = refl

  later_collected : (n : ℕ) (so_far : List ℕ) (last at : ℕ)
      → collected command (before ++ run) n so_far (length before + last) (length before + at) ≡ later_telegram (length before) (collected command run n so_far last at)
  unfolding collected
  later_collected zero so_far last at = refl
  later_collected (suc n) so_far last at =
      let field = field_at command (length so_far) in
      let rest : List ℕ → ℕ → ℕ → ℕ → Telegram = λ r place b next. collected command r n (so_far ++ b ∷ []) place next in
      ap (λ (l : Result (ℕ × ℕ) Refusal). on_byte field (length before + at) l (rest (before ++ run) (length before + at))) (later_logical before run at)
      ∙ on_byte_lem field at (rest run at) (rest (before ++ run) (length before + at)) (λ b next. later_collected n (so_far ++ b ∷ []) at next) (logical_at run at)

  on_head_lem : (t : Telegram) → on_head command (before ++ run) (later_telegram (length before) t) ≡ later_telegram (length before) (on_head command run t)
  on_head_lem (read so_far last next) = later_collected (get_or so_far (length_place command) 0 + 1) so_far last next
  on_head_lem (unread why) = refl

  later_telegram_lem : (at : ℕ) → telegram_at command (before ++ run) (length before + at) ≡ later_telegram (length before) (telegram_at command run at)
  unfolding telegram_at
  later_telegram_lem at = ap (on_head command (before ++ run)) (later_collected (head_of command) [] at at) ∙ on_head_lem (collected command run (head_of command) [] at at)

  -- ---- an attempt

  later_acknowledge_lem : (at : ℕ) → acknowledge_at (before ++ run) (length before + at) ≡ later_acknowledge (length before) (acknowledge_at run at)
  unfolding acknowledge_at
  later_acknowledge_lem at =
      let k = length before in
      let f : ℕ → ℕ → Acknowledge =
      λ at b. pick (eqb b ack) (positive (at + 1)) (pick (eqb b nack) (negative at) (pick (eqb b syn) (invalid (at_place syn_early at)) (invalid (at_place bus_error at)))) in
      let move = later_acknowledge k in
      later_byte_lem move before run at (f at) (f (k + at))
      (λ b. later_pick move (eqb b ack) (ap positive (omega arith)) (later_pick move (eqb b nack) refl (later_pick move (eqb b syn) refl refl)))
      (ap invalid (later_over before run))

  on_acknowledge_lem : (telegram : List ℕ) (check_place : ℕ) (a : Acknowledge)
      → on_acknowledge telegram (length before + check_place) (later_acknowledge (length before) a) ≡ later_ending (length before) (on_acknowledge telegram check_place a)
  on_acknowledge_lem telegram check_place (positive next) = refl
  on_acknowledge_lem telegram check_place (negative place) = refl
  on_acknowledge_lem telegram check_place (invalid why) = refl

  on_telegram_lem : (t : Telegram) → on_telegram command (before ++ run) (later_telegram (length before) t) ≡ later_ending (length before) (on_telegram command run t)
  on_telegram_lem (read telegram check_place next) =
      later_pick (later_ending (length before)) (unanswered command telegram) refl
      (ap (on_acknowledge telegram (length before + check_place)) (later_acknowledge_lem next) ∙ on_acknowledge_lem telegram check_place (acknowledge_at run next))
  on_telegram_lem (unread why) = refl

  later_ending_lem : (at : ℕ) → ending_at command (before ++ run) (length before + at) ≡ later_ending (length before) (ending_at command run at)
  unfolding ending_at
  later_ending_lem at = ap (on_telegram command (before ++ run)) (later_telegram_lem at) ∙ on_telegram_lem (telegram_at command run at)

  on_ending : (e : Ending) → settled_by (λ telegram check_place. check_right telegram) (later_ending (length before) e) ≡ later_attempt (length before) (settled_by (λ telegram check_place. check_right telegram) e)
  on_ending (acknowledged telegram check_place next) = later_pick (later_attempt (length before)) (check_right telegram) refl refl
  on_ending (refused telegram place) = refl
  on_ending (broken why) = refl

  pub later_attempt_lem : (at : ℕ) → attempt_at command (before ++ run) (length before + at) ≡ later_attempt (length before) (attempt_at command run at)
  unfolding attempt_at
  later_attempt_lem at = ap (settled_by (λ telegram check_place. check_right telegram)) (later_ending_lem at) ∙ on_ending (ending_at command run at)
