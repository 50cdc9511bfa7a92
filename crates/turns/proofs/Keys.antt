-- Laws of the keys: an unscanned device's key is its serial, a scanned one's is above every unscanned one's.
-- Assumes nothing.
use mathlib.Core.Path.{◌≡◌, refl, ap, ◌∙◌}
use mathlib.Core.Bool.{Bool}
use mathlib.Core.List.{List, [], ◌∷◌}
use Prim.Native.Nat.{ℕ, zero, suc, ◌+◌, ◌*◌, ◌^◌, ◌<◌}
use native.Mathlib.Omega.{arith}
use lib.Dec.{eqb}
use lib.ListN.{length, get_or}
use borrow.Author.Tests.{eq-eqb, ne_eqb, eqb-true, eqb-false}
use Rattle.lists.proofs.Cases.{by_test}
use Rattle.lists.specs.Choice.{pick}
use Rattle.table.specs.Table.{serial_limit}
use Rattle.turns.specs.Request.{key_with, key, for_each, keys_of}

-- with any mark bits
module _ (u s : ℕ) where
  pub with_unscanned : (mark serial : ℕ) → mark ≡ 0 → key_with u s mark serial ≡ u * serial_limit + serial
  unfolding key_with
  with_unscanned mark serial e = ap (λ (b : Bool). pick b u s * serial_limit + serial) (eq-eqb mark 0 e)

  pub with_scanned : (mark serial : ℕ) → (mark ≡ 0 → ⊥) → key_with u s mark serial ≡ s * serial_limit + serial
  unfolding key_with
  with_scanned mark serial e = ap (λ (b : Bool). pick b u s * serial_limit + serial) (ne_eqb mark 0 e)

  module _ (less : u < s) (four : s < 16) where
    pub with_below : (mark serial : ℕ) → serial < serial_limit → key_with u s mark serial < 2 ^ 32
    with_below mark serial h =
        by_test (eqb mark 0) (λ e. omega (arith, with_unscanned mark serial (eqb-true mark 0 e))) (λ e. omega (arith, with_scanned mark serial (eqb-false mark 0 e)))

    -- two keys are equal only where the serials are
    pub same_serial : (a b x y : ℕ) → x < serial_limit → y < serial_limit → key_with u s a x ≡ key_with u s b y → x ≡ y
    same_serial a b x y hx hy e =
        by_test (eqb a 0)
        (λ p. let wa = with_unscanned a x (eqb-true a 0 p) in
        by_test (eqb b 0)
        (λ q. let wb = with_unscanned b y (eqb-true b 0 q) in omega arith)
        (λ q. let wb = with_scanned b y (eqb-false b 0 q) in let z : ⊥ = omega arith in absurd z))
        (λ p. let wa = with_scanned a x (eqb-false a 0 p) in
        by_test (eqb b 0)
        (λ q. let wb = with_unscanned b y (eqb-true b 0 q) in let z : ⊥ = omega arith in absurd z)
        (λ q. let wb = with_scanned b y (eqb-false b 0 q) in omega arith))

-- with 0 and 15
pub key_unscanned : (mark serial : ℕ) → mark ≡ 0 → key mark serial ≡ serial
key_unscanned mark serial e = with_unscanned 0 15 mark serial e ∙ omega arith

pub key_scanned : (mark serial : ℕ) → (mark ≡ 0 → ⊥) → key mark serial ≡ 0xF000_0000 + serial
key_scanned mark serial e = with_scanned 0 15 mark serial e

pub key_below : (mark serial : ℕ) → serial < serial_limit → key mark serial < 2 ^ 32
key_below mark serial h = with_below 0 15 (omega arith) (omega arith) mark serial h

-- as many numbers as devices, each of its own device
module _ (number : ℕ → ℕ → ℕ) where
  pub each_length : (serials marks : List ℕ) → length marks ≡ length serials → length (for_each number serials marks) ≡ length serials
  unfolding for_each
  each_length [] marks e = refl
  each_length (s ∷ ss) [] e = let z : ⊥ = omega arith in absurd z
  each_length (s ∷ ss) (m ∷ ms) e = ap suc (each_length ss ms (omega arith))

  pub each_at : (serials marks : List ℕ) → length marks ≡ length serials → (i : ℕ) → i < length serials
      → get_or (for_each number serials marks) i 0 ≡ number (get_or marks i 0) (get_or serials i 0)
  unfolding for_each
  each_at [] marks e i h = let z : ⊥ = omega arith in absurd z
  each_at (s ∷ ss) [] e i h = let z : ⊥ = omega arith in absurd z
  each_at (s ∷ ss) (m ∷ ms) e zero h = refl
  each_at (s ∷ ss) (m ∷ ms) e (suc i) h = each_at ss ms (omega arith) i (omega arith)

pub keys_length : (serials marks : List ℕ) → length marks ≡ length serials → length (keys_of serials marks) ≡ length serials
keys_length = each_length key

pub keys_at : (serials marks : List ℕ) → length marks ≡ length serials → (i : ℕ) → i < length serials → get_or (keys_of serials marks) i 0 ≡ key (get_or marks i 0) (get_or serials i 0)
keys_at = each_at key
