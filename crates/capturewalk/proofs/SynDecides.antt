-- A raw SYN decides an exchange whose command starts at it or before it: number 3 is not the answer. A SYN is used as no logical byte
-- and as no acknowledge byte, so nothing goes on behind it.
-- Assumes nothing.
use Rattle.std.specs.Prelude.{Result, Ok, Err}
use Rattle.refusal.specs.declared.Refusal.{Refusal}
use mathlib.Core.Path.{◌≡◌, refl, ap, ◌∙◌, subst}
use mathlib.Core.Bool.{Bool, true, false}
use mathlib.Core.List.{List, [], ◌∷◌, ◌++◌}
use mathlib.Core.Logic.{⊎_elim}
use Prim.Native.Nat.{ℕ, zero, suc, ◌+◌, ◌-◌, ◌≤◌, ◌<◌}
use native.Mathlib.Omega.{arith}
use lib.Dec.{eqb, ltb}
use lib.ListN.{length, get_or}
use borrow.Author.Tests.{ltb-false, eqb-true, eqb-false}
use Rattle.lists.proofs.Cases.{pick_cases, same_or_not}
use Rattle.refusal.specs.Number.{run_ended}
use Rattle.escapes.specs.Escape.{esc, syn}
use Rattle.escapes.specs.Logical.{escape_at, logical_at}
use Rattle.escapes.proofs.LongerRun.{OtherRefusal}
use Rattle.addresses.specs.declared.ExchangeKind.{ExchangeKind}
use Rattle.addresses.specs.declared.ExchangeKind.TheVariants.{Broadcast, InitiatorInitiator, InitiatorTarget}
use Rattle.addresses.specs.Address.{kind_of}
use Rattle.telegram.specs.Telegram.{head_of, length_place, destination_of, check_right, Field, field_at, fault_of, Telegram, read, unread, on_byte, collected, on_head, telegram_at}
use Rattle.telegram.proofs.LongerRun.{fault_other}
use Rattle.beginning.specs.Beginning.{command_start}
use Rattle.beginning.proofs.Pieces.{in_range}
use Rattle.attempts.specs.Attempt.{ack, nack, Acknowledge, positive, negative, invalid, acknowledge_at, Ending, acknowledged, refused, broken, on_acknowledge, unanswered, on_telegram, ending_at, Attempt, taken, nacked, failed, settled_by, attempt_at}
use Rattle.exchange.specs.Exchange.{Tries, once, twice, neither, nacked_twice, on_second, on_first, tries_at, End, syn_at, Outcome, accepted, rejected, on_end, on_reply, on_kind, on_command, exchange_at, exchange}
use Rattle.cuts.specs.Cuts.{Open}

-- a second FF is 10 or 11
nacked_other : (command : Bool) → nacked_twice command ≡ run_ended → ⊥
nacked_other true e = omega arith
nacked_other false e = omega arith

module _ (run : List ℕ) (s : ℕ) (is : get_or run s 0 ≡ syn) where
  -- ---- a raw byte

  near : (at : ℕ) → at ≤ s → length run ≤ at → ⊥
  near at h far = omega (arith, h, far, in_range run s syn is (omega arith))

  -- what is no SYN stands before it
  passed : (at : ℕ) → at ≤ s → (get_or run at 0 ≡ syn → ⊥) → at + 1 ≤ s
  passed at h other =
      ⊎_elim (λ (e : at ≡ s). absurd (other (ap (λ (i : ℕ). get_or run i 0) e ∙ is))) (λ (e : at ≡ s → ⊥). omega (arith, h, e)) (same_or_not at s)

  passed_as : (at x : ℕ) → at ≤ s → (x ≡ syn → ⊥) → eqb (get_or run at 0) x ≡ true → at + 1 ≤ s
  passed_as at x h other e = passed at h (λ f. other (let g : x ≡ syn = omega (arith, f, eqb-true (get_or run at 0) x e) in g))

  -- ---- what is said of each kind of answer: it goes on at that SYN or before it, or is no refusal with number 3

  abbrev ByteDecided : Result (ℕ × ℕ) Refusal → Type 0
  ByteDecided (Ok (b, next)) = next ≤ s
  ByteDecided (Err why) = OtherRefusal why

  abbrev TelegramDecided : Telegram → Type 0
  TelegramDecided (read telegram last next) = next ≤ s
  TelegramDecided (unread why) = OtherRefusal why

  abbrev AcknowledgeDecided : Acknowledge → Type 0
  AcknowledgeDecided (positive next) = next ≤ s
  AcknowledgeDecided (negative place) = place + 1 ≤ s
  AcknowledgeDecided (invalid why) = OtherRefusal why

  abbrev EndingDecided : Ending → Type 0
  EndingDecided (acknowledged telegram check_place next) = next ≤ s
  EndingDecided (refused telegram place) = place + 1 ≤ s
  EndingDecided (broken why) = OtherRefusal why

  abbrev AttemptDecided : Attempt → Type 0
  AttemptDecided (taken telegram next) = next ≤ s
  AttemptDecided (nacked telegram place) = place + 1 ≤ s
  AttemptDecided (failed why) = OtherRefusal why

  abbrev TriesDecided : Tries → Type 0
  TriesDecided (once telegram next) = next ≤ s
  TriesDecided (twice first second next) = next ≤ s
  TriesDecided (neither why) = OtherRefusal why

  abbrev Decided : Outcome → Type 0
  Decided (accepted kind commands replies next command first second) = Unit {0}
  Decided (rejected why) = OtherRefusal why

  -- ---- a logical byte

  escape_decided : (at : ℕ) → at ≤ s → ByteDecided (escape_at run at)
  unfolding escape_at
  escape_decided at h =
      let x = get_or run at 0 in
      pick_cases ByteDecided (ltb at (length run)) _ _
      (λ _.
      pick_cases ByteDecided (eqb x 0x00) _ _ (λ e. passed_as at 0x00 h (λ f. omega arith) e)
      (λ _.
      pick_cases ByteDecided (eqb x 0x01) _ _ (λ e. passed_as at 0x01 h (λ f. omega arith) e)
      (λ _. pick_cases ByteDecided (eqb x syn) _ _ (λ _ e. omega arith) (λ _ e. omega arith))))
      (λ far. absurd (near at h (ltb-false at (length run) far)))

  logical_decided : (at : ℕ) → at ≤ s → ByteDecided (logical_at run at)
  unfolding logical_at
  logical_decided at h =
      let x = get_or run at 0 in
      pick_cases ByteDecided (ltb at (length run)) _ _
      (λ _.
      pick_cases ByteDecided (eqb x esc) _ _ (λ e. escape_decided (at + 1) (passed_as at esc h (λ f. omega arith) e))
      (λ _. pick_cases ByteDecided (eqb x syn) _ _ (λ _ e. omega arith) (λ e. passed at h (eqb-false x syn e))))
      (λ far. absurd (near at h (ltb-false at (length run) far)))

  -- ---- a telegram

  by_byte : (field : Field) (at : ℕ) (rest : ℕ → ℕ → Telegram) → ((b next : ℕ) → next ≤ s → TelegramDecided (rest b next))
      → (l : Result (ℕ × ℕ) Refusal) → ByteDecided l → TelegramDecided (on_byte field at l rest)
  by_byte field at rest each (Ok (b, next)) h =
      pick_cases TelegramDecided (eqb (fault_of field b) 0) _ _ (λ _. each b next h) (λ _. fault_other field b)
  by_byte field at rest each (Err why) h = h

  collected_decided : (command : Bool) (n : ℕ) (so_far : List ℕ) (last at : ℕ) → at ≤ s → TelegramDecided (collected command run n so_far last at)
  unfolding collected
  collected_decided command zero so_far last at h = h
  collected_decided command (suc n) so_far last at h =
      by_byte (field_at command (length so_far)) at (λ b next. collected command run n (so_far ++ b ∷ []) at next)
      (λ b next k. collected_decided command n (so_far ++ b ∷ []) at next k) (logical_at run at) (logical_decided at h)

  by_head : (command : Bool) (t : Telegram) → TelegramDecided t → TelegramDecided (on_head command run t)
  by_head command (read so_far last next) h = collected_decided command (get_or so_far (length_place command) 0 + 1) so_far last next h
  by_head command (unread why) h = h

  telegram_decided : (command : Bool) (at : ℕ) → at ≤ s → TelegramDecided (telegram_at command run at)
  unfolding telegram_at
  telegram_decided command at h = by_head command (collected command run (head_of command) [] at at) (collected_decided command (head_of command) [] at at h)

  -- ---- an attempt

  acknowledge_decided : (at : ℕ) → at ≤ s → AcknowledgeDecided (acknowledge_at run at)
  unfolding acknowledge_at
  acknowledge_decided at h =
      let x = get_or run at 0 in
      pick_cases AcknowledgeDecided (ltb at (length run)) _ _
      (λ _.
      pick_cases AcknowledgeDecided (eqb x ack) _ _ (λ e. passed_as at ack h (λ f. omega arith) e)
      (λ _.
      pick_cases AcknowledgeDecided (eqb x nack) _ _ (λ e. passed_as at nack h (λ f. omega arith) e)
      (λ _. pick_cases AcknowledgeDecided (eqb x syn) _ _ (λ _ e. omega arith) (λ _ e. omega arith))))
      (λ far. absurd (near at h (ltb-false at (length run) far)))

  by_acknowledge : (telegram : List ℕ) (check_place : ℕ) (a : Acknowledge) → AcknowledgeDecided a → EndingDecided (on_acknowledge telegram check_place a)
  by_acknowledge telegram check_place (positive next) h = h
  by_acknowledge telegram check_place (negative place) h = h
  by_acknowledge telegram check_place (invalid why) h = h

  by_telegram : (command : Bool) (t : Telegram) → TelegramDecided t → EndingDecided (on_telegram command run t)
  by_telegram command (read telegram check_place next) h =
      pick_cases EndingDecided (unanswered command telegram) _ _ (λ _. h)
      (λ _. by_acknowledge telegram check_place (acknowledge_at run next) (acknowledge_decided next h))
  by_telegram command (unread why) h = h

  by_ending : (right : List ℕ → ℕ → Bool) (e : Ending) → EndingDecided e → AttemptDecided (settled_by right e)
  by_ending right (acknowledged telegram check_place next) h =
      pick_cases AttemptDecided (right telegram check_place) _ _ (λ _. h) (λ _ e. omega arith)
  by_ending right (refused telegram place) h = h
  by_ending right (broken why) h = h

  attempt_decided : (command : Bool) (at : ℕ) → at ≤ s → AttemptDecided (attempt_at command run at)
  unfolding attempt_at ending_at
  attempt_decided command at h =
      by_ending (λ telegram check_place. check_right telegram) (on_telegram command run (telegram_at command run at))
      (by_telegram command (telegram_at command run at) (telegram_decided command at h))

  -- ---- one attempt or two

  by_second : (command : Bool) (first : List ℕ) (a : Attempt) → AttemptDecided a → TriesDecided (on_second command first a)
  by_second command first (taken telegram next) h = h
  by_second command first (nacked telegram place) h = nacked_other command
  by_second command first (failed why) h = h

  by_first : (command : Bool) (a : Attempt) → AttemptDecided a → TriesDecided (on_first command run a)
  by_first command (taken telegram next) h = h
  by_first command (nacked telegram place) h = by_second command telegram (attempt_at command run (place + 1)) (attempt_decided command (place + 1) h)
  by_first command (failed why) h = h

  tries_decided : (command : Bool) (at : ℕ) → at ≤ s → TriesDecided (tries_at command run at)
  unfolding tries_at
  tries_decided command at h = by_first command (attempt_at command run at) (attempt_decided command at h)

  -- ---- the exchange

  module _ (kind : ExchangeKind) (commands replies : ℕ) (command first second : List ℕ) where
    abbrev EndDecided : End → Type 0
    EndDecided e = Decided (on_end kind commands replies command first second e)

    end_decided : (at : ℕ) → at ≤ s → EndDecided (syn_at run at)
    unfolding syn_at
    end_decided at h =
        pick_cases EndDecided (ltb at (length run)) _ _ (λ _. pick_cases EndDecided (eqb (get_or run at 0) syn) _ _ (λ _. tt) (λ _ e. omega arith))
        (λ far. absurd (near at h (ltb-false at (length run) far)))

  by_reply : (commands : ℕ) (command : List ℕ) (t : Tries) → TriesDecided t → Decided (on_reply commands command run t)
  by_reply commands command (once reply next) h = end_decided InitiatorTarget commands 1 command reply [] next h
  by_reply commands command (twice first second next) h = end_decided InitiatorTarget commands 2 command first second next h
  by_reply commands command (neither why) h = h

  by_kind : (commands : ℕ) (command : List ℕ) (next : ℕ) → next ≤ s → (k : ExchangeKind) → Decided (on_kind commands command run next k)
  by_kind commands command next h Broadcast = end_decided Broadcast commands 0 command [] [] next h
  by_kind commands command next h InitiatorInitiator = end_decided InitiatorInitiator commands 0 command [] [] next h
  by_kind commands command next h InitiatorTarget = by_reply commands command (tries_at false run next) (tries_decided false next h)

  by_command : (t : Tries) → TriesDecided t → Decided (on_command run t)
  by_command (once command next) h = by_kind 1 command next h (kind_of (destination_of command))
  by_command (twice first command next) h = by_kind 2 command next h (kind_of (destination_of command))
  by_command (neither why) h = h

  exchange_decided : (at : ℕ) → at ≤ s → Decided (exchange_at run at)
  unfolding exchange_at
  exchange_decided at h = by_command (tries_at true run at) (tries_decided true at h)

  -- a SYN that stands where the command starts, or anywhere behind
  pub syn_inside : command_start run ≤ s → Open (exchange run) → ⊥
  syn_inside h o = subst Decided o.1 (exchange_decided (command_start run) h) refl

-- .. at the run's end
pub syn_decides : (run : List ℕ) → 0 < length run → get_or run (length run - 1) 0 ≡ syn → command_start run ≡ 0 → Open (exchange run) → ⊥
syn_decides run some is none = syn_inside run (length run - 1) is (let h : command_start run ≤ length run - 1 = omega (arith, none) in h)
