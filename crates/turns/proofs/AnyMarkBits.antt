-- Any mark bits with unscanned below scanned give the same winner: keys are in the same order with either, so the smallest
-- is the same device's.
-- Assumes nothing.
use mathlib.Core.Path.{◌≡◌, refl, sym, ap, ◌∙◌, subst}
use mathlib.Core.List.{List, [], ◌∷◌}
use mathlib.Core.Logic.{⊎_elim}
use Prim.Native.Nat.{ℕ, ◌≤◌, ◌<◌}
use native.Mathlib.Omega.{arith}
use lib.Dec.{eqb}
use lib.ListN.{length, get_or}
use borrow.Author.Tests.{eqb-true, eqb-false}
use Rattle.lists.specs.Tests.{position}
use Rattle.lists.proofs.Cases.{by_test, le_or_lt}
use Rattle.arbitration.specs.Contest.{decided}
use Rattle.arbitration.specs.declared.Decided.{Decided}
use Rattle.arbitration.specs.Smallest.{Smallest}
use Rattle.arbitration.proofs.SmallestWins.{contest_law}
use Rattle.table.specs.Table.{Table, devices, serial_limit}
use Rattle.table.proofs.Meaning.{Tested, tested, serial_below, same_device}
use Rattle.turns.specs.Request.{key_with, key, for_each, windows, contest}
use Rattle.turns.specs.MarkBits.{AnyMarkBits}
use Rattle.turns.proofs.Keys.{with_unscanned, with_scanned, with_below, same_serial, key_unscanned, key_scanned, each_length, each_at}
use Rattle.turns.proofs.Winner.{winner_wins}

module _ (u s : ℕ) where
  module _ (less : u < s) (four : s < 16) where
    -- the order of two keys is the same with either bits
    same_order : (a b x y : ℕ) → x < serial_limit → y < serial_limit → key a x ≤ key b y → key_with u s a x ≤ key_with u s b y
    same_order a b x y hx hy le =
        by_test (eqb a 0)
        (λ p. let ka = key_unscanned a x (eqb-true a 0 p) in let wa = with_unscanned u s a x (eqb-true a 0 p) in
        by_test (eqb b 0)
        (λ q. let kb = key_unscanned b y (eqb-true b 0 q) in let wb = with_unscanned u s b y (eqb-true b 0 q) in omega arith)
        (λ q. let wb = with_scanned u s b y (eqb-false b 0 q) in omega arith))
        (λ p. let ka = key_scanned a x (eqb-false a 0 p) in let wa = with_scanned u s a x (eqb-false a 0 p) in
        by_test (eqb b 0)
        (λ q. let kb = key_unscanned b y (eqb-true b 0 q) in let z : ⊥ = omega arith in absurd z)
        (λ q. let kb = key_scanned b y (eqb-false b 0 q) in let wb = with_scanned u s b y (eqb-false b 0 q) in omega arith))

    module _ (t : Table) (g : Tested t) (somebody : 0 < devices t) where
      -- the same device has the smallest key
      smallest : (size : length (for_each (key_with u s) t.serials t.marks) ≡ devices t)
          → Smallest (key_with u s (get_or t.marks (contest t).place 0) (get_or t.serials (contest t).place 0)) (for_each (key_with u s) t.serials t.marks)
      smallest size =
          let p = (contest t).place in
          let wins = winner_wins t g somebody in
          let at = each_at (key_with u s) t.serials t.marks g.marks_long in
          record {
            place = p;
            inside = omega (arith, wins.inside);
            there = at p wins.inside;
            least = λ i h.
                let inside : i < devices t = omega arith in
                subst (λ (k : ℕ). key_with u s (get_or t.marks p 0) (get_or t.serials p 0) ≤ k) (sym (at i inside))
                (same_order (get_or t.marks p 0) (get_or t.marks i 0) (get_or t.serials p 0) (get_or t.serials i 0) (serial_below t g p wins.inside) (serial_below t g i inside) (wins.least i inside));
          }

      same_winner : (decided windows (for_each (key_with u s) t.serials t.marks)).place ≡ (contest t).place
      same_winner =
          let p = (contest t).place in
          let wins = winner_wins t g somebody in
          let others = for_each (key_with u s) t.serials t.marks in
          let size = each_length (key_with u s) t.serials t.marks g.marks_long in
          let at = each_at (key_with u s) t.serials t.marks g.marks_long in
          let m = key_with u s (get_or t.marks p 0) (get_or t.serials p 0) in
          let won = contest_law windows others m (smallest size) (with_below u s less four (get_or t.marks p 0) (get_or t.serials p 0) (serial_below t g p wins.inside)) in
          let q = position m others in
          let inside : q < devices t = omega (arith, won.inside, size) in
          ap (λ (d : Decided). d.place) won.decides
          ∙ same_device t g q p inside wins.inside
          (same_serial u s less four (get_or t.marks q 0) (get_or t.marks p 0) (get_or t.serials q 0) (get_or t.serials p 0)
          (serial_below t g q inside) (serial_below t g p wins.inside) (sym (at q inside) ∙ won.there))

-- where there is nobody, there is no key with either
nothing : (number : ℕ → ℕ → ℕ) (serials marks : List ℕ) → length serials ≡ 0 → for_each number serials marks ≡ []
unfolding for_each
nothing number [] marks e = refl
nothing number (x ∷ xs) marks e = let z : ⊥ = omega arith in absurd z

pub any_mark_bits : AnyMarkBits
any_mark_bits u s less four t v =
    ⊎_elim
    (λ somebody. same_winner u s less four t (tested t v) somebody)
    (λ nobody.
    let none : devices t ≡ 0 = omega arith in
    ap (λ (l : List ℕ). (decided windows l).place) (nothing (key_with u s) t.serials t.marks none ∙ sym (nothing key t.serials t.marks none)))
    (le_or_lt 1 (devices t))
