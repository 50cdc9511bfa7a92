-- Ids told apart by a place for each byte: a place is taken exactly where the id stands among those passed.
-- Assumes nothing.
use mathlib.Core.Path.{◌≡◌, sym, ap, ◌∙◌}
use mathlib.Core.Bool.{Bool, true, false, ◌&&◌}
use mathlib.Core.List.{List}
use mathlib.Core.Logic.{⊎_elim}
use Prim.Native.Nat.{ℕ, ◌+◌, ◌≤◌, ◌<◌}
use native.Mathlib.Omega.{arith}
use lib.ListN.{length, get_or, set, replicate, length-set, length-replicate, get_or-replicate, get_or-eq_default}
use lib.Seq.{get_or-set_same, get_or-set_other}
use Rattle.lists.specs.Tests.{all, different}
use Rattle.lists.proofs.All.{all_at, all_from, different_at, different_from}
use Rattle.lists.proofs.Cases.{by_test, true_not_false, same_or_not, le_or_lt, both, both_first, both_second}
use Rattle.events.specs.Events.{is_id}

-- the places after the first i ids, which are right and differ
pub record Seen (ids : List ℕ) (taken : List Bool) (i : ℕ) : Type 0 where
  pub walked : i ≤ length ids
  pub size : length taken ≡ 256
  pub right : (j : ℕ) → j < i → is_id (get_or ids j 0) ≡ true
  pub each : (j : ℕ) → j < i → get_or taken (get_or ids j 0) false ≡ true
  pub only : (v : ℕ) → get_or taken v false ≡ true → (j : ℕ) × (j < i) × (get_or ids j 0 ≡ v)
  pub apart : (j k : ℕ) → j < k → k < i → get_or ids j 0 ≡ get_or ids k 0 → ⊥

none_taken : (v : ℕ) → get_or (replicate 256 false) v false ≡ false
none_taken v =
    ⊎_elim (λ behind. get_or-eq_default (replicate 256 false) false {n = v} (omega (arith, length-replicate {A = Bool} 256 false))) (λ within. get_or-replicate 256 v false false within) (le_or_lt 256 v)

pub no_ids : (ids : List ℕ) → Seen ids (replicate 256 false) 0
no_ids ids =
    record {
      walked = omega arith;
      size = length-replicate {A = Bool} 256 false;
      right = λ j h. let z : ⊥ = omega arith in absurd z;
      each = λ j h. let z : ⊥ = omega arith in absurd z;
      only = λ v h. true_not_false h (none_taken v);
      apart = λ j k lt h same. let z : ⊥ = omega arith in z;
    }

module _ (ids : List ℕ) (taken : List Bool) (i : ℕ) (kept : Seen ids taken i) where
  pub next_id : i < length ids → is_id (get_or ids i 0) ≡ true → get_or taken (get_or ids i 0) false ≡ false → get_or ids i 0 < 256 → Seen ids (set taken (get_or ids i 0) true) (i + 1)
  next_id inside passes free low =
      record {
        walked = omega arith;
        size = length-set taken at true ∙ kept.size;
        right = right_on;
        each = each_on;
        only = only_on;
        apart = apart_on;
      }
    where
      at : ℕ
      at = get_or ids i 0

      within : at < length taken
      within = omega (arith, kept.size, low)

      here : (j : ℕ) → j ≡ i → get_or ids j 0 ≡ at
      here j same = ap (λ (k : ℕ). get_or ids k 0) same

      is_taken : (v : ℕ) → v ≡ at → get_or (set taken at true) v false ≡ true
      is_taken v same = ap (λ (n : ℕ). get_or (set taken at true) n false) same ∙ get_or-set_same taken at true false within

      right_on : (j : ℕ) → j < i + 1 → is_id (get_or ids j 0) ≡ true
      right_on j h =
          ⊎_elim (λ same. ap is_id (here j same) ∙ passes) (λ before. let lt : j < i = omega arith in kept.right j lt) (same_or_not j i)

      each_on : (j : ℕ) → j < i + 1 → get_or (set taken at true) (get_or ids j 0) false ≡ true
      each_on j h =
          ⊎_elim (is_taken (get_or ids j 0))
          (λ other. ⊎_elim (λ same. absurd (other (here j same)))
          (λ before. let lt : j < i = omega arith in get_or-set_other taken at (get_or ids j 0) true false other ∙ kept.each j lt)
          (same_or_not j i))
          (same_or_not (get_or ids j 0) at)

      only_on : (v : ℕ) → get_or (set taken at true) v false ≡ true → (j : ℕ) × (j < i + 1) × (get_or ids j 0 ≡ v)
      only_on v h =
          ⊎_elim (λ same. (i, omega arith, sym same))
          (λ other. let before = kept.only v (sym (get_or-set_other taken at v true false other) ∙ h) in (before.0, omega (arith, before.1), before.2))
          (same_or_not v at)

      apart_on : (j k : ℕ) → j < k → k < i + 1 → get_or ids j 0 ≡ get_or ids k 0 → ⊥
      apart_on j k lt h same =
          ⊎_elim
          (λ last. let before : j < i = omega arith in
          true_not_false (sym (ap (λ (v : ℕ). get_or taken v false) (same ∙ here k last)) ∙ kept.each j before) free)
          (λ before. kept.apart j k lt (omega arith) same)
          (same_or_not k i)

  -- all are passed
  pub ids_end : length ids ≤ i → true ≡ (all is_id ids && different ids)
  ids_end end =
      sym (both (all_from is_id ids (λ j h. let lt : j < i = omega arith in kept.right j lt)) (different_from ids (λ j k lt h. let before : k < i = omega arith in kept.apart j k lt before)))

  pub id_twice : i < length ids → get_or taken (get_or ids i 0) false ≡ true → false ≡ (all is_id ids && different ids)
  id_twice inside some =
      let there = kept.only (get_or ids i 0) some in
      by_test (all is_id ids && different ids) (λ t. absurd (different_at ids (both_second (all is_id ids) (different ids) t) there.0 i there.1 inside there.2)) sym

pub id_wrong : (ids : List ℕ) (i : ℕ) → i < length ids → is_id (get_or ids i 0) ≡ false → false ≡ (all is_id ids && different ids)
id_wrong ids i inside fails =
    by_test (all is_id ids && different ids) (λ t. true_not_false (all_at is_id ids (both_first (all is_id ids) (different ids) t) i inside) fails) sym
