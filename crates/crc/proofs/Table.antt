-- A table of a byte's steps: one test over all its entries, which antt computes, and one law that turns an entry into a
-- whole register's steps, the eight of that byte and any number behind them. Both checks cite it, each with its direction,
-- width and polynomial. An entry that is worked out and not looked up passes the same test.
-- Assumes nothing.
use mathlib.Core.Path.{◌≡◌, ◌∙◌, subst, sym, ap}
use mathlib.Core.Bool.{Bool, true, false, ◌&&◌}
use mathlib.Core.List.{List, [], ◌∷◌}
use Prim.Native.Nat.{ℕ, zero, suc, ◌+◌, ◌^◌, ◌<◌, ◌≤◌}
use native.Mathlib.Nat.{add-zero, zero-add, add-suc, suc-add, le_of_suc-le-suc, not-suc-le-zero}
use lib.Bits.{bit_xor}
use lib.Dec.{T, eqb, eqb→eq}
use lib.ListN.{length, get_or, replicate}
use Rattle.crc.specs.Register.{Direction, steps}
use Rattle.crc.specs.BitByBit.{TableOf}
use Rattle.crc.proofs.Register.{outgoing, placed, placed_lt, carried, steps_lt, steps_on}

first_of : (a b : Bool) → T (a && b) → T a
first_of true b t = tt
first_of false b t = t

second_of_lem : (a b : Bool) → T (a && b) → T b
second_of_lem true b t = t
second_of_lem false b t = absurd t

-- the test f passes at each entry of the list and its index, counted from i
abbrev passes : (ℕ → ℕ → Bool) → ℕ → List ℕ → Bool
passes f i [] = true
passes f i (x ∷ xs) = f i x && passes f (suc i) xs

from : (f : ℕ → ℕ → Bool) (xs : List ℕ) (i : ℕ) → T (passes f i xs) → (k : ℕ) → k < length xs → T (f (i + k) (get_or xs k 0))
from f [] i t k h = absurd (not-suc-le-zero h)
from f (x ∷ xs) i t zero h = subst (λ (m : ℕ). T (f m x)) (sym (add-zero i)) (first_of (f i x) (passes f (suc i) xs) t)
from f (x ∷ xs) i t (suc k) h =
    subst (λ (m : ℕ). T (f m (get_or xs k 0))) (suc-add i k ∙ sym (add-suc i k))
    (from f xs (suc i) (second_of_lem (f i x) (passes f (suc i) xs) t) k (le_of_suc-le-suc h))

-- a table whose every entry passes the one test
pub tested : (rule : ℕ → ℕ) (table : List ℕ) → length table ≡ 256 → T (passes (λ (k x : ℕ). eqb x (rule k)) 0 table) → TableOf rule table
tested rule table size holds =
    record {
      size = size;
      entry =
          λ k within.
          eqb→eq (get_or table k 0) (rule k)
          (subst (λ (m : ℕ). T (eqb (get_or table k 0) (rule m))) (zero-add k)
          (from (λ (m x : ℕ). eqb x (rule m)) table 0 holds k (subst (λ (n : ℕ). k < n) (sym size) within)));
    }

-- two rules that agree on every byte, by the one test
pub agreed : (rule rule' : ℕ → ℕ) → T (passes (λ (k x : ℕ). eqb (rule k) (rule' k)) 0 (replicate 256 0)) → (k : ℕ) → k < 256 → rule k ≡ rule' k
agreed rule rule' holds k within =
    eqb→eq (rule k) (rule' k)
    (subst (λ (m : ℕ). T (eqb (rule m) (rule' m))) (zero-add k)
    (from (λ (m x : ℕ). eqb (rule m) (rule' m)) (replicate 256 0) 0 holds k within))

-- the same table by a rule that agrees on bytes
pub table_by : (rule rule' : ℕ → ℕ) {table : List ℕ} → ((k : ℕ) → k < 256 → rule k ≡ rule' k) → TableOf rule table → TableOf rule' table
table_by rule rule' agree t = record { size = t.size; entry = λ k within. t.entry k within ∙ agree k within }

-- entry k is what eight steps make of a register that holds k at the end that falls out
abbrev pub IsTable : Direction → ℕ → ℕ → List ℕ → Type 0
IsTable d w p table = TableOf (λ (k : ℕ). steps d w p 8 (placed d w 8 k)) table

module _ (d : Direction) (w p : ℕ) (hp : p < 2 ^ w) (hw : 8 ≤ w) where
  -- eight steps of a byte at the end that falls out have w bits
  pub byte_lt : (k : ℕ) → k < 256 → steps d w p 8 (placed d w 8 k) < 2 ^ w
  byte_lt k hk = steps_lt d w p hp 8 (placed d w 8 k) (placed_lt d w 8 k hw hk)

  -- the law: eight steps of a whole register and m more are the entry of the byte that falls out, looked up or worked out,
  -- added to what m steps make of the rest
  pub by_entry_on : (m r e : ℕ) → r < 2 ^ w → e ≡ steps d w p (8 + m) (placed d w 8 (outgoing d w 8 r))
      → steps d w p (8 + m) r ≡ bit_xor (steps d w p m (carried d w 8 r)) e
  by_entry_on m r e hr is = steps_on d w p 8 m r hp hw hr ∙ ap (bit_xor (steps d w p m (carried d w 8 r))) (sym is)

  -- .. and none more
  pub by_entry : (r e : ℕ) → r < 2 ^ w → e ≡ steps d w p 8 (placed d w 8 (outgoing d w 8 r)) → steps d w p 8 r ≡ bit_xor (carried d w 8 r) e
  unfolding steps
  by_entry r e hr is = by_entry_on 0 r e hr is

module _ (d : Direction) (w p : ℕ) (table : List ℕ) (t : IsTable d w p table) (hp : p < 2 ^ w) (hw : 8 ≤ w) where
  -- an entry has w bits
  pub entry_lt : (k : ℕ) → k < 256 → get_or table k 0 < 2 ^ w
  entry_lt k hk = subst (λ (x : ℕ). x < 2 ^ w) (sym (t.entry k hk)) (byte_lt d w p hp hw k hk)

  -- the law where the entry is looked up
  pub by_table : (r : ℕ) → r < 2 ^ w → outgoing d w 8 r < 256 → steps d w p 8 r ≡ bit_xor (carried d w 8 r) (get_or table (outgoing d w 8 r) 0)
  by_table r hr within = by_entry d w p hp hw r (get_or table (outgoing d w 8 r) 0) hr (t.entry (outgoing d w 8 r) within)
