-- What a valid table has, fact by fact.
-- Assumes nothing.
use mathlib.Core.Path.{◌≡◌, refl, sym}
use mathlib.Core.Bool.{true, false}
use Prim.Native.Nat.{ℕ, ◌≤◌, ◌<◌}
use native.Mathlib.Omega.{arith}
use lib.Dec.{leb, eqb}
use lib.ListN.{length, get_or}
use borrow.Author.Tests.{eqb-true, leb-true, leb-false, ltb-true, eq-eqb, le-leb}
use Rattle.lists.proofs.Cases.{by_test, true_not_false, both_first, both_second, both, test_passes}
use Rattle.lists.specs.Tests.{all, different}
use Rattle.table.specs.Table.{Table, devices, valid, serial_right, mark_right, serial_limit, most_devices}
use Rattle.lists.proofs.All.{all_at, different_at}

-- the tests of `valid`, each true
pub record Tested (t : Table) : Type 0 where
  pub addresses_long : length t.addresses ≡ devices t
  pub marks_long : length t.marks ≡ devices t
  pub few : devices t ≤ most_devices
  pub serials_right : all serial_right t.serials ≡ true
  pub differ : different t.serials ≡ true
  pub marks_right : all mark_right t.marks ≡ true

pub tested : (t : Table) → valid t ≡ true → Tested t
unfolding valid
tested t h =
    let h1 = both_second (eqb (length t.addresses) (devices t)) _ h in
    let h2 = both_second (eqb (length t.marks) (devices t)) _ h1 in
    let h3 = both_second (leb (devices t) most_devices) _ h2 in
    let h4 = both_second (all serial_right t.serials) _ h3 in
    record {
      addresses_long = eqb-true (length t.addresses) (devices t) (both_first (eqb (length t.addresses) (devices t)) _ h);
      marks_long = eqb-true (length t.marks) (devices t) (both_first (eqb (length t.marks) (devices t)) _ h1);
      few = leb-true (devices t) most_devices (both_first (leb (devices t) most_devices) _ h2);
      serials_right = both_first (all serial_right t.serials) _ h3;
      differ = both_first (different t.serials) _ h4;
      marks_right = both_second (different t.serials) _ h4;
    }

pub valid_from : (t : Table) → Tested t → valid t ≡ true
unfolding valid
valid_from t g =
    both (eq-eqb (length t.addresses) (devices t) g.addresses_long)
    (both (eq-eqb (length t.marks) (devices t) g.marks_long)
    (both (le-leb (devices t) most_devices g.few) (both g.serials_right (both g.differ g.marks_right))))

-- .. so where one of them fails, the table is not valid
pub not_valid : (t : Table) → (Tested t → ⊥) → false ≡ valid t
not_valid t fails = by_test (valid t) (λ v. absurd (fails (tested t v))) sym

-- where all before the last pass, the last decides
pub marks_decide : (t : Table) → length t.addresses ≡ devices t → length t.marks ≡ devices t → devices t ≤ most_devices
    → all serial_right t.serials ≡ true → different t.serials ≡ true → all mark_right t.marks ≡ valid t
unfolding valid
marks_decide t addresses_long marks_long few serials_right differ =
    test_passes (eq-eqb (length t.addresses) (devices t) addresses_long)
    (test_passes (eq-eqb (length t.marks) (devices t) marks_long)
    (test_passes (le-leb (devices t) most_devices few) (test_passes serials_right (test_passes differ refl))))

module _ (t : Table) (g : Tested t) where
  pub serial_below : (i : ℕ) → i < devices t → get_or t.serials i 0 < serial_limit
  serial_below i h = ltb-true (get_or t.serials i 0) serial_limit (all_at serial_right t.serials g.serials_right i h)

  pub mark_below : (i : ℕ) → i < devices t → get_or t.marks i 0 < 2
  mark_below i h = ltb-true (get_or t.marks i 0) 2 (all_at mark_right t.marks g.marks_right i (omega (arith, g.marks_long)))

  -- two devices with one serial are one device
  pub same_device : (i j : ℕ) → i < devices t → j < devices t → get_or t.serials i 0 ≡ get_or t.serials j 0 → i ≡ j
  same_device i j hi hj e =
      by_test (eqb i j) (λ same. eqb-true i j same)
      (λ other. let distinct : i ≡ j → ⊥ = λ s. true_not_false (eq-eqb i j s) other in
      by_test (leb i j)
      (λ le. let l : i ≤ j = leb-true i j le in absurd (different_at t.serials g.differ i j (omega arith) hj e))
      (λ gt. let l : j < i = leb-false i j gt in absurd (different_at t.serials g.differ j i l hi (sym e))))
