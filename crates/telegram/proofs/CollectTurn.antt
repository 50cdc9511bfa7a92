-- One turn of collecting the bytes of a telegram: what the next logical byte makes of the rest.
-- Assumes nothing.
use Rattle.std.specs.Prelude.{Result, Ok, Err}
use mathlib.Core.Path.{◌≡◌, sym, ap, ap₂, ◌∙◌}
use mathlib.Core.Bool.{Bool}
use mathlib.Core.List.{List, [], ◌∷◌, ◌++◌}
use Prim.Native.Nat.{ℕ, suc, ◌+◌, ◌-◌, ◌≤◌, ◌<◌}
use native.Mathlib.Omega.{arith}
use lib.ListN.{length, get_or, length-append}
use lib.Seq.{get_or-append_seam}
use borrow.Author.Tests.{eq-eqb, ne_eqb}
use Rattle.lists.specs.Choice.{pick}
use Rattle.refusal.specs.Number.{at_place}
use Rattle.refusal.specs.declared.Refusal.{Refusal}
use Rattle.escapes.specs.Logical.{logical_at}
use Rattle.telegram.specs.Telegram.{last_of, field_at, fault_of, read, unread, on_byte, collected}
use Rattle.telegram.specs.View.{extent_of}

module _ (command : Bool) (run : List ℕ) (n : ℕ) (so_far : List ℕ) (last at place : ℕ) (due : 0 < n) (long : length so_far ≡ place) where
  by_logical : (l : Result (ℕ × ℕ) Refusal) → logical_at run at ≡ l
      → collected command run n so_far last at ≡ on_byte (field_at command place) at l (λ b next. collected command run (n - 1) (so_far ++ b ∷ []) at next)
  unfolding collected
  by_logical l e =
      let one : n ≡ suc (n - 1) = omega arith in
      ap (λ (m : ℕ). collected command run m so_far last at) one
      ∙ ap (λ (k : ℕ). on_byte (field_at command k) at (logical_at run at) (λ b next. collected command run (n - 1) (so_far ++ b ∷ []) at next)) long
      ∙ ap (λ (x : Result (ℕ × ℕ) Refusal). on_byte (field_at command place) at x (λ b next. collected command run (n - 1) (so_far ++ b ∷ []) at next)) e

  pub turn_refused : (why : Refusal) → logical_at run at ≡ Err why → collected command run n so_far last at ≡ unread why
  turn_refused why e = by_logical (Err why) e

  module _ (b next : ℕ) (e : logical_at run at ≡ Ok (b, next)) where
    pub turn_byte : fault_of (field_at command place) b ≡ 0 → collected command run n so_far last at ≡ collected command run (n - 1) (so_far ++ b ∷ []) at next
    turn_byte fine =
        by_logical (Ok (b, next)) e
        ∙ ap (λ t. pick t (collected command run (n - 1) (so_far ++ b ∷ []) at next) (unread (at_place (fault_of (field_at command place) b) at))) (eq-eqb _ _ fine)

    pub turn_fault : (fault_of (field_at command place) b ≡ 0 → ⊥) → collected command run n so_far last at ≡ unread (at_place (fault_of (field_at command place) b) at)
    turn_fault bad =
        by_logical (Ok (b, next)) e
        ∙ ap (λ t. pick t (collected command run (n - 1) (so_far ++ b ∷ []) at next) (unread (at_place (fault_of (field_at command place) b) at))) (ne_eqb _ _ bad)

pub none_due : (command : Bool) (run : List ℕ) (n : ℕ) (so_far : List ℕ) (last at : ℕ) → n ≤ 0 → collected command run n so_far last at ≡ read so_far last at
unfolding collected
none_due command run n so_far last at h =
    let none : n ≡ 0 = omega arith in
    ap (λ (m : ℕ). collected command run m so_far last at) none

-- ---- the loop's invariant

-- what is due from the start, behind so_far₀, is what is due from here: the bytes from this place to the end, behind those before it, of
-- which the last is value
pub record Reaches (command : Bool) (run : List ℕ) (n : ℕ) (so_far₀ : List ℕ) (last₀ at₀ end place value last at : ℕ) : Type 0 where
  pub so_far : List ℕ
  pub size : length so_far ≡ place
  pub final : last_of so_far ≡ value
  pub same : collected command run (end - place) so_far last at ≡ collected command run n so_far₀ last₀ at₀

pub reach_start : (command : Bool) (run : List ℕ) (n : ℕ) (so_far : List ℕ) (place value last at : ℕ) → length so_far ≡ place → last_of so_far ≡ value
    → Reaches command run n so_far last at (place + n) place value last at
reach_start command run n so_far place value last at size final =
    let due : place + n - place ≡ n = omega arith in
    record { so_far = so_far; size = size; final = final; same = ap (λ (m : ℕ). collected command run m so_far last at) due }

module _ (command : Bool) (run : List ℕ) (n : ℕ) (so_far₀ : List ℕ) (last₀ at₀ end place value last at : ℕ)
    (reached : Reaches command run n so_far₀ last₀ at₀ end place value last at) where
  pub reach_end : place ≡ end → Ok (record { len = end; value = value; last = last; next = at }) ≡ extent_of (collected command run n so_far₀ last₀ at₀)
  reach_end over =
      ap₂ (λ (k b : ℕ). Ok (record { len = k; value = b; last = last; next = at })) (sym over ∙ sym reached.size) (sym reached.final)
      ∙ ap extent_of (sym (none_due command run (end - place) reached.so_far last at (omega arith)) ∙ reached.same)

  module _ (due : place < end) where
    some_due : 0 < end - place
    some_due = omega arith

    pub reach_refused : (why : Refusal) → logical_at run at ≡ Err why → Err why ≡ extent_of (collected command run n so_far₀ last₀ at₀)
    reach_refused why e = ap extent_of (sym (turn_refused command run (end - place) reached.so_far last at place some_due reached.size why e) ∙ reached.same)

    module _ (b next : ℕ) (e : logical_at run at ≡ Ok (b, next)) where
      pub reach_fault : (fault_of (field_at command place) b ≡ 0 → ⊥)
          → Err (at_place (fault_of (field_at command place) b) at) ≡ extent_of (collected command run n so_far₀ last₀ at₀)
      reach_fault bad = ap extent_of (sym (turn_fault command run (end - place) reached.so_far last at place some_due reached.size b next e bad) ∙ reached.same)

      pub reach_next : fault_of (field_at command place) b ≡ 0 → Reaches command run n so_far₀ last₀ at₀ end (place + 1) b at next
      reach_next fine =
          let one : length (reached.so_far ++ b ∷ []) ≡ length reached.so_far + 1 = length-append reached.so_far (b ∷ []) in
          let before : length (reached.so_far ++ b ∷ []) - 1 ≡ length reached.so_far = omega arith in
          let fewer : end - (place + 1) ≡ end - place - 1 = omega arith in
          record {
            so_far = reached.so_far ++ b ∷ [];
            size = one ∙ ap (λ (k : ℕ). k + 1) reached.size;
            final = ap (λ (k : ℕ). get_or (reached.so_far ++ b ∷ []) k 0) before ∙ get_or-append_seam reached.so_far b [] 0;
            same =
                ap (λ (m : ℕ). collected command run m (reached.so_far ++ b ∷ []) at next) fewer
                ∙ sym (turn_byte command run (end - place) reached.so_far last at place some_due reached.size b next e fine)
                ∙ reached.same;
          }
