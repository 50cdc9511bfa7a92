-- A telegram that can't be read is refused at a place of the run, or at its end; for a fault of a field at a place of the run.
-- Assumes nothing.
use Rattle.std.specs.Prelude.{Result, Ok, Err}
use mathlib.Core.Path.{◌≡◌, subst}
use mathlib.Core.Bool.{Bool}
use mathlib.Core.List.{List, [], ◌∷◌, ◌++◌}
use Prim.Native.Nat.{ℕ, zero, suc, ◌+◌, ◌≤◌, ◌<◌}
use native.Mathlib.Omega.{arith}
use lib.Dec.{eqb, ltb}
use lib.ListN.{length, get_or}
use borrow.Author.Tests.{ltb-true}
use Rattle.lists.proofs.Cases.{pick_cases}
use Rattle.refusal.specs.Number.{source_wrong}
use Rattle.refusal.specs.declared.Refusal.{Refusal}
use Rattle.escapes.specs.Escape.{esc, syn}
use Rattle.escapes.specs.Logical.{escape_at, logical_at}
use Rattle.escapes.proofs.LogicalBytes.{Stands, logical_stands}
use Rattle.telegram.specs.Telegram.{head_of, length_place, Field, field_at, fault_of, Telegram, read, unread, on_byte, collected, on_head, telegram_at}

-- ---- a logical byte

-- a refusal of a run of n bytes
abbrev RefusedWithin : ℕ → Refusal → Type 0
RefusedWithin n why = (why.place ≤ n) × (source_wrong ≤ why.number → why.place < n)

abbrev ByteWithin : ℕ → Result (ℕ × ℕ) Refusal → Type 0
ByteWithin n (Ok (b, next)) = Unit {0}
ByteWithin n (Err why) = RefusedWithin n why

escape_within : (run : List ℕ) (at : ℕ) → ByteWithin (length run) (escape_at run at)
unfolding escape_at
escape_within run at =
    let x = get_or run at 0 in
    let W = ByteWithin (length run) in
    pick_cases W (ltb at (length run)) _ _
    (λ t.
    let h : at < length run = ltb-true at (length run) t in
    pick_cases W (eqb x 0x00) _ _ (λ _. tt)
    (λ _. pick_cases W (eqb x 0x01) _ _ (λ _. tt)
    (λ _. pick_cases W (eqb x syn) _ _ (λ _. (omega arith, λ k. omega arith)) (λ _. (omega arith, λ k. omega arith)))))
    (λ _. (omega arith, λ k. omega arith))

logical_within : (run : List ℕ) (at : ℕ) → ByteWithin (length run) (logical_at run at)
unfolding logical_at
logical_within run at =
    let x = get_or run at 0 in
    let W = ByteWithin (length run) in
    pick_cases W (ltb at (length run)) _ _
    (λ t.
    let h : at < length run = ltb-true at (length run) t in
    pick_cases W (eqb x esc) _ _ (λ _. escape_within run (at + 1)) (λ _. pick_cases W (eqb x syn) _ _ (λ _. (omega arith, λ k. omega arith)) (λ _. tt)))
    (λ _. (omega arith, λ k. omega arith))

-- ---- a telegram

abbrev Within : ℕ → Telegram → Type 0
Within n (read telegram last next) = Unit {0}
Within n (unread why) = RefusedWithin n why

-- a field's fault is at its first raw byte
by_byte : (run : List ℕ) (field : Field) (at : ℕ) (rest : ℕ → ℕ → Telegram) → ((b next : ℕ) → Within (length run) (rest b next))
    → (l : Result (ℕ × ℕ) Refusal) → ByteWithin (length run) l → Stands run at l → Within (length run) (on_byte field at l rest)
by_byte run field at rest each (Ok (b, next)) h s = pick_cases (Within (length run)) (eqb (fault_of field b) 0) _ _ (λ _. each b next) (λ _. (omega (arith, s.0, s.1), λ _. omega (arith, s.0, s.1)))
by_byte run field at rest each (Err why) h s = h

module _ (command : Bool) (run : List ℕ) where
  collected_within : (n : ℕ) (so_far : List ℕ) (last at : ℕ) → Within (length run) (collected command run n so_far last at)
  unfolding collected
  collected_within zero so_far last at = tt
  collected_within (suc n) so_far last at =
      by_byte run (field_at command (length so_far)) at (λ b next. collected command run n (so_far ++ b ∷ []) at next)
      (λ b next. collected_within n (so_far ++ b ∷ []) at next) (logical_at run at) (logical_within run at) (logical_stands run at)

  by_head : (t : Telegram) → Within (length run) t → Within (length run) (on_head command run t)
  by_head (read so_far last next) h = collected_within (get_or so_far (length_place command) 0 + 1) so_far last next
  by_head (unread why) h = h

  pub refused_within : (at : ℕ) (why : Refusal) → telegram_at command run at ≡ unread why → (why.place ≤ length run) × (source_wrong ≤ why.number → why.place < length run)
  unfolding telegram_at
  refused_within at why e =
      subst (Within (length run)) e (by_head (collected command run (head_of command) [] at at) (collected_within (head_of command) [] at at))
