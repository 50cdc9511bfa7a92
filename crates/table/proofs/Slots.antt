-- Serials told apart by slots: each serial passed so far has taken the slot of its low bits, so one whose slot is free
-- stands nowhere before.
-- Assumes nothing.
use mathlib.Core.Path.{◌≡◌, sym, ap, ◌∙◌, subst}
use mathlib.Core.Bool.{true, false}
use mathlib.Core.List.{List}
use mathlib.Core.Logic.{⊎_elim}
use Prim.Native.Nat.{ℕ, ◌+◌, ◌≤◌, ◌<◌}
use native.Mathlib.Omega.{arith}
use lib.Dec.{eqb}
use lib.ListN.{length, get_or, take, set, replicate, length-set, length-replicate}
use lib.Seq.{get_or-set_same, get_or-set_other, get_or-take, length-take-le}
use borrow.Author.Tests.{eqb-true, eq-eqb}
use Rattle.lists.specs.Tests.{any, different}
use Rattle.lists.proofs.All.{different_at, different_from}
use Rattle.lists.proofs.Cases.{by_test, true_not_false, same_or_not}
use Rattle.lists.proofs.Tests.{any_where, any_here}
use Rattle.table.specs.Slots.{slot_of}

-- the slots after the first i serials, which differ
pub record Slots (serials taken : List ℕ) (i : ℕ) : Type 0 where
  pub walked : i ≤ length serials
  pub size : length taken ≡ 2048
  pub each : (j : ℕ) → j < i → 0 < get_or taken (slot_of (get_or serials j 0)) 0
  pub apart : (j k : ℕ) → j < k → k < i → get_or serials j 0 ≡ get_or serials k 0 → ⊥

-- the serial at i does not stand before i
abbrev New : List ℕ → ℕ → Type 0
New serials i = (j : ℕ) → j < i → get_or serials j 0 ≡ get_or serials i 0 → ⊥

pub no_slots : (serials : List ℕ) → Slots serials (replicate 2048 0) 0
no_slots serials =
    record {
      walked = omega arith;
      size = length-replicate {A = ℕ} 2048 0;
      each = λ j h. let z : ⊥ = omega arith in absurd z;
      apart = λ j k lt h same. let z : ⊥ = omega arith in z;
    }

module _ (serials taken : List ℕ) (i : ℕ) (kept : Slots serials taken i) where
  pub slot_free : (slot : ℕ) → slot ≡ slot_of (get_or serials i 0) → get_or taken slot 0 ≤ 0 → New serials i
  slot_free slot its free j h same =
      let there : slot_of (get_or serials j 0) ≡ slot = ap slot_of same ∙ sym its in
      let some = subst (λ (s : ℕ). 0 < get_or taken s 0) there (kept.each j h) in
      omega (arith, some, free)

  pub slot_next : (slot : ℕ) → slot ≡ slot_of (get_or serials i 0) → i < length serials → New serials i → Slots serials (set taken slot 1) (i + 1)
  slot_next slot its inside new =
      record {
        walked = omega arith;
        size = length-set taken slot 1 ∙ kept.size;
        each = each_on;
        apart = apart_on;
      }
    where
      within : slot < length taken
      within = omega (arith, its, kept.size)

      stays : (s : ℕ) → (s ≡ slot → ⊥) → 0 < get_or taken s 0 → 0 < get_or (set taken slot 1) s 0
      stays s other h = omega (arith, get_or-set_other taken slot s 1 0 other, h)

      is_taken : (s : ℕ) → s ≡ slot → 0 < get_or (set taken slot 1) s 0
      is_taken s same = subst (λ (n : ℕ). 0 < get_or (set taken slot 1) n 0) (sym same) (omega (arith, get_or-set_same taken slot 1 0 within))

      each_on : (j : ℕ) → j < i + 1 → 0 < get_or (set taken slot 1) (slot_of (get_or serials j 0)) 0
      each_on j h =
          ⊎_elim (is_taken (slot_of (get_or serials j 0)))
          (λ other. ⊎_elim (λ same. absurd (other (ap (λ (k : ℕ). slot_of (get_or serials k 0)) same ∙ sym its)))
          (λ before. let lt : j < i = omega arith in stays (slot_of (get_or serials j 0)) other (kept.each j lt))
          (same_or_not j i))
          (same_or_not (slot_of (get_or serials j 0)) slot)

      apart_on : (j k : ℕ) → j < k → k < i + 1 → get_or serials j 0 ≡ get_or serials k 0 → ⊥
      apart_on j k lt h same =
          ⊎_elim (λ last. new j (omega arith) (same ∙ ap (λ (n : ℕ). get_or serials n 0) last)) (λ before. kept.apart j k lt (omega arith) same) (same_or_not k i)

  -- all are passed
  pub slots_end : length serials ≤ i → true ≡ different serials
  slots_end end = sym (different_from serials (λ j k lt h. kept.apart j k lt (omega arith)))

-- a serial compared with all before it
module _ (serials : List ℕ) (i : ℕ) (inside : i < length serials) where
  before : length (take i serials) ≡ i
  before = length-take-le i serials (omega arith)

  pub stands_nowhere : any (eqb (get_or serials i 0)) (take i serials) ≡ false → New serials i
  stands_nowhere none j h same =
      true_not_false (any_here (eqb (get_or serials i 0)) (take i serials) j (omega (arith, before)) (eq-eqb (get_or serials i 0) (get_or (take i serials) j 0) (sym same ∙ sym (get_or-take i serials j 0 h)))) none

  pub stands_twice : any (eqb (get_or serials i 0)) (take i serials) ≡ true → false ≡ different serials
  stands_twice found =
      let there = any_where (eqb (get_or serials i 0)) (take i serials) found in
      let j = there.0 in
      let lt : j < i = omega (arith, there.1, before) in
      let same = eqb-true (get_or serials i 0) (get_or (take i serials) j 0) there.2 in
      by_test (different serials) (λ d. absurd (different_at serials d j i lt inside (sym (same ∙ get_or-take i serials j 0 lt)))) sym
