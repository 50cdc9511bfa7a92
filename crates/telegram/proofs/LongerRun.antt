-- A longer run: what was read of a telegram, or why it can't be read, is the same when more bytes follow, save the refusal by the
-- run's own end.
-- Assumes nothing.
use Rattle.std.specs.Prelude.{Result, Ok, Err}
use Rattle.refusal.specs.declared.Refusal.{Refusal}
use mathlib.Core.Path.{◌≡◌}
use mathlib.Core.Bool.{Bool}
use mathlib.Core.List.{List, [], ◌∷◌, ◌++◌}
use Prim.Native.Nat.{ℕ, zero, suc, ◌+◌}
use native.Mathlib.Omega.{arith}
use lib.Dec.{eqb, leb}
use lib.ListN.{length, get_or}
use Rattle.refusal.specs.Number.{run_ended, at_place}
use Rattle.lists.proofs.Cases.{pick_cases}
use Rattle.escapes.specs.Logical.{run_over, logical_at}
use Rattle.escapes.proofs.LongerRun.{Stays, OtherRefusal, OtherByte, stays_same, stays_on, stays_pick, logical_stays}
use Rattle.addresses.specs.Address.{initiator, reserved}
use Rattle.telegram.specs.Telegram.{head_of, length_place, longest, Field, SRC, DST, LEN, unjudged, field_at, fault_of, Telegram, read, unread, on_byte, collected, on_head, telegram_at}

abbrev pub OtherTelegram : Telegram → Type 0
OtherTelegram (read telegram last next) = Unit {0}
OtherTelegram (unread why) = OtherRefusal why

-- what is wrong with a field is 6, 7 or 8
pub fault_other : (field : Field) (b : ℕ) → fault_of field b ≡ run_ended → ⊥
unfolding fault_of
fault_other SRC b = pick_cases (λ k. k ≡ run_ended → ⊥) (initiator b) _ _ (λ _ e. omega arith) (λ _ e. omega arith)
fault_other DST b = pick_cases (λ k. k ≡ run_ended → ⊥) (reserved b) _ _ (λ _ e. omega arith) (λ _ e. omega arith)
fault_other LEN b = pick_cases (λ k. k ≡ run_ended → ⊥) (leb b longest) _ _ (λ _ e. omega arith) (λ _ e. omega arith)
fault_other unjudged b = λ e. omega arith

by_byte : (run : List ℕ) (field : Field) (at : ℕ) (rest rest' : ℕ → ℕ → Telegram)
    → ((b next : ℕ) → Stays OtherTelegram (unread (run_over run)) (rest b next) (rest' b next))
    → (l : Result (ℕ × ℕ) Refusal) → OtherByte l → Stays OtherTelegram (unread (run_over run)) (on_byte field at l rest) (on_byte field at l rest')
by_byte run field at rest rest' each (Ok (b, next)) h =
    let wrong = unread (at_place (fault_of field b) at) in
    stays_pick OtherTelegram (unread (run_over run)) (rest b next) (rest' b next) wrong wrong (eqb (fault_of field b) 0) (each b next)
    (stays_same OtherTelegram (unread (run_over run)) wrong (fault_other field b))
by_byte run field at rest rest' each (Err why) h = stays_same OtherTelegram (unread (run_over run)) (unread why) h

module _ (run more : List ℕ) where
  collected_stays : (command : Bool) (n : ℕ) (so_far : List ℕ) (last at : ℕ)
      → Stays OtherTelegram (unread (run_over run)) (collected command run n so_far last at) (collected command (run ++ more) n so_far last at)
  unfolding collected
  collected_stays command zero so_far last at = stays_same OtherTelegram (unread (run_over run)) (read so_far last at) tt
  collected_stays command (suc n) so_far last at =
      let rest : List ℕ → ℕ → ℕ → Telegram = λ r b next. collected command r n (so_far ++ b ∷ []) at next in
      stays_on OtherByte OtherTelegram (λ l. on_byte (field_at command (length so_far)) at l (rest run)) (λ l. on_byte (field_at command (length so_far)) at l (rest (run ++ more)))
      (Err (run_over run)) (logical_at run at) (logical_at (run ++ more) at)
      (by_byte run (field_at command (length so_far)) at (rest run) (rest (run ++ more)) (λ b next. collected_stays command n (so_far ++ b ∷ []) at next))
      (logical_stays run more at)

  by_head : (command : Bool) (t : Telegram) → OtherTelegram t → Stays OtherTelegram (unread (run_over run)) (on_head command run t) (on_head command (run ++ more) t)
  by_head command (read so_far last next) h = collected_stays command (get_or so_far (length_place command) 0 + 1) so_far last next
  by_head command (unread why) h = stays_same OtherTelegram (unread (run_over run)) (unread why) h

  pub telegram_stays : (command : Bool) (at : ℕ) → Stays OtherTelegram (unread (run_over run)) (telegram_at command run at) (telegram_at command (run ++ more) at)
  unfolding telegram_at
  telegram_stays command at =
      stays_on OtherTelegram OtherTelegram (on_head command run) (on_head command (run ++ more)) (unread (run_over run))
      (collected command run (head_of command) [] at at) (collected command (run ++ more) (head_of command) [] at at) (by_head command) (collected_stays command (head_of command) [] at at)
