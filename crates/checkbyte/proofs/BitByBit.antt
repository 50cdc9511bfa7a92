-- The eBUS check is the bit-by-bit rule that the public routine writes (specs/BitByBit.antt), on every input.
-- Assumes nothing.
use mathlib.Core.Path.{◌≡◌, refl, sym, ap, ap₂, ◌∙◌}
use mathlib.Core.List.{List, [], ◌∷◌, ◌++◌}
use mathlib.Core.Logic.{⊎_elim}
use Prim.Native.Nat.{ℕ, ◌+◌, ◌-◌, ◌*◌, ◌/◌, ◌%◌, ◌<◌, ◌≤◌}
use native.Mathlib.Nat.{mod-eq_of_lt, mul-one}
use native.Mathlib.Omega.{arith}
use lib.Bits.{bit_xor, xor_lt, xor_comm, xor_zero_r, xor_shifted}
use lib.Dec.{lit<, lit≤}
use lib.ListN.{replicate}
use borrow.Author.Tests.{lt-ltb, le-ltb}
use Rattle.lists.specs.Choice.{pick}
use Rattle.lists.proofs.Cases.{le_or_lt}
use Rattle.crc.specs.Register.{left, step, steps, enter, bits}
use Rattle.crc.proofs.Xor.{xor_assoc}
use Rattle.crc.proofs.Register.{Bits, bits_are_bits, spelled_bits, step_lt, placed, left_quiet, enter_spelled}
use Rattle.crc.proofs.Table.{IsTable, table_by}
use Rattle.escapes.specs.Escape.{expanded}
use Rattle.escapes.proofs.Escaped.{escaped_plain}
use Rattle.checkbyte.specs.Check.{ebus_polynomial, ebus_bytes, ebus_check}
use Rattle.checkbyte.specs.BitByBit.{ebus_in, ebus_all, ebus_rule, EbusIsBitByBit, LoneByte, EbusTable}

-- an even number and a bit
join_bit : (x bit : ℕ) → bit < 2 → bit_xor (x * 2) bit ≡ x * 2 + bit
join_bit x bit h = xor_shifted x 1 bit h

-- the polynomial goes in before or after the bit
added_first : (x p bit : ℕ) → bit_xor (bit_xor x p) bit ≡ bit_xor (bit_xor x bit) p
added_first x p bit = xor_assoc x p bit ∙ ap (bit_xor x) (xor_comm p bit) ∙ sym (xor_assoc x bit p)

module _ (r bit : ℕ) (hr : r < 256) (hb : bit < 2) where
  below : r < 128 → bit_xor (step left 8 ebus_polynomial r) bit ≡ ebus_in r bit
  unfolding step ebus_in
  below h =
      let stays : r * 2 % 256 ≡ r * 2 = omega arith in
      let none : r * 2 / 256 ≡ 0 = omega arith in
      ap₂ (λ (x y : ℕ). bit_xor (bit_xor x (y * ebus_polynomial)) bit) stays none
      ∙ ap (λ (x : ℕ). bit_xor x bit) (xor_zero_r (r * 2))
      ∙ join_bit r bit hb
      ∙ sym (ap (λ b. pick b (r * 2 + bit) (bit_xor (r * 2 + bit - 0x100) 0x9B)) (lt-ltb (r * 2 + bit) 0x100 (omega arith)))

  above : 128 ≤ r → bit_xor (step left 8 ebus_polynomial r) bit ≡ ebus_in r bit
  unfolding step ebus_in
  above h =
      let stays : r * 2 % 256 ≡ (r - 128) * 2 = omega arith in
      let one : r * 2 / 256 ≡ 1 = omega arith in
      let same : (r - 128) * 2 + bit ≡ r * 2 + bit - 0x100 = omega arith in
      ap₂ (λ (x y : ℕ). bit_xor (bit_xor x (y * ebus_polynomial)) bit) stays one
      ∙ added_first ((r - 128) * 2) ebus_polynomial bit
      ∙ ap (λ (x : ℕ). bit_xor x ebus_polynomial) (join_bit (r - 128) bit hb ∙ same)
      ∙ sym (ap (λ b. pick b (r * 2 + bit) (bit_xor (r * 2 + bit - 0x100) 0x9B)) (le-ltb (r * 2 + bit) 0x100 (omega arith)))

  one_bit : bit_xor (step left 8 ebus_polynomial r) bit ≡ ebus_in r bit
  one_bit = ⊎_elim above below (le_or_lt 128 r)

  one_bit_lt : bit_xor (step left 8 ebus_polynomial r) bit < 256
  one_bit_lt = xor_lt 8 (step left 8 ebus_polynomial r) bit (step_lt left 8 ebus_polynomial (lit< tt) r hr) (omega arith)

all_bits : (r : ℕ) (rest : List ℕ) → r < 256 → Bits rest → (enter 8 ebus_polynomial r rest ≡ ebus_all r rest) × (enter 8 ebus_polynomial r rest < 256)
unfolding enter ebus_all
all_bits r [] hr hb = (refl, hr)
all_bits r (bit ∷ rest) hr hb =
    let next = all_bits (bit_xor (step left 8 ebus_polynomial r) bit) rest (one_bit_lt r bit hr hb.0) hb.1 in
    (next.0 ∙ ap (λ (x : ℕ). ebus_all x rest) (one_bit r bit hr hb.0), next.1)

all_bytes : (r : ℕ) (bs : List ℕ) → r < 256 → ebus_bytes r bs ≡ ebus_rule r bs
unfolding ebus_bytes ebus_rule
all_bytes r [] hr = refl
all_bytes r (b ∷ bs) hr =
    let here = all_bits r (bits 8 b) hr (bits_are_bits 8 b) in
    all_bytes (enter 8 ebus_polynomial r (bits 8 b)) bs here.1 ∙ ap (λ (x : ℕ). ebus_rule x bs) here.0

pub ebus_bit_by_bit : EbusIsBitByBit
unfolding ebus_check
ebus_bit_by_bit logical = all_bytes 0x00 (expanded logical) (lit< tt)

-- ---- a lone byte

-- its bits enter an empty register, from which nothing falls out
pub lone_byte : LoneByte
unfolding ebus_check ebus_bytes expanded enter steps bits
lone_byte b low =
    ap (ebus_bytes 0x00) (ap (λ (l : List ℕ). l ++ []) (escaped_plain b (λ e. omega arith) (λ e. omega arith)))
    ∙ enter_spelled 8 ebus_polynomial 0 (bits 8 b) (lit< tt) (lit≤ tt) (bits_are_bits 8 b) (lit< tt)
    ∙ ap₂ bit_xor (left_quiet 8 ebus_polynomial 8 0 0 (lit≤ tt) (lit< tt)) (spelled_bits 8 b ∙ mod-eq_of_lt (omega arith))

-- ---- the table

zero_bits_lem : (k : ℕ) → k < 256 → ebus_all k (replicate 8 0) ≡ steps left 8 ebus_polynomial 8 (placed left 8 8 k)
unfolding bits
zero_bits_lem k hk =
    let are : Bits (replicate 8 0) = bits_are_bits 8 0 in
    sym (all_bits k (replicate 8 0) hk are).0
    ∙ enter_spelled 8 ebus_polynomial k (replicate 8 0) (lit< tt) (lit≤ tt) are hk
    ∙ xor_zero_r (steps left 8 ebus_polynomial 8 k)
    ∙ ap (steps left 8 ebus_polynomial 8) (sym (mul-one k))

-- the table by the bit-by-bit rule is one by the register's steps
pub ebus_table : {table : List ℕ} → EbusTable table → IsTable left 8 ebus_polynomial table
ebus_table t = table_by (λ (k : ℕ). ebus_all k (replicate 8 0)) (λ (k : ℕ). steps left 8 ebus_polynomial 8 (placed left 8 8 k)) zero_bits_lem t
