-- The CRC7 is the bit-by-bit rule over seven bits (specs/BitByBit.antt), on all bytes. The routine's register of eight bits holds those
-- seven one place up, and below them and over them the bits of the character that have not entered yet.
-- Assumes nothing.
use mathlib.Core.Path.{◌≡◌, sym, ap, ap₂, ◌∙◌}
use mathlib.Core.Bool.{Bool, true, false}
use mathlib.Core.List.{List, [], ◌∷◌}
use Prim.Native.Nat.{ℕ, zero, suc, ◌*◌, ◌/◌, ◌%◌, ◌^◌, ◌<◌}
use native.Mathlib.Omega.{arith}
use lib.Bits.{bit_xor, xor_lt, xor_zero_r, xor_comm}
use lib.Dec.{eqb, lit<}
use lib.ListN.{get_or}
use Rattle.lists.specs.Choice.{pick}
use Rattle.crc.specs.Register.{left, step, steps, bits}
use Rattle.crc.proofs.Xor.{bit_cases, xor_assoc, xor_double}
use Rattle.crc.proofs.Register.{step_xor}
use Rattle.crc.proofs.Table.{agreed}
use Rattle.crc7.specs.Check.{crc7_polynomial, crc7_bytes, crc7}
use Rattle.crc7.specs.BitByBit.{crc7_in, crc7_all, crc7_rule, Crc7IsBitByBit}

-- ---- one bit

-- the rule without its if: what falls out and the bit that enters each add x^3 + 1
in_sums : (x high bit : ℕ) → high < 2 → bit < 2 → pick (eqb high bit) x (bit_xor x 0x09) ≡ bit_xor (bit_xor x (high * 0x09)) (bit * 0x09)
in_sums x high bit hh hb =
    bit_cases (λ (h : ℕ). pick (eqb h bit) x (bit_xor x 0x09) ≡ bit_xor (bit_xor x (h * 0x09)) (bit * 0x09))
    (bit_cases (λ (b : ℕ). pick (eqb 0 b) x (bit_xor x 0x09) ≡ bit_xor (bit_xor x 0) (b * 0x09)) (sym (xor_zero_r (bit_xor x 0) ∙ xor_zero_r x))
    (sym (ap (λ (y : ℕ). bit_xor y 0x09) (xor_zero_r x))) bit hb)
    (bit_cases (λ (b : ℕ). pick (eqb 1 b) x (bit_xor x 0x09) ≡ bit_xor (bit_xor x 0x09) (b * 0x09)) (sym (xor_zero_r (bit_xor x 0x09)))
    (sym (xor_assoc x 0x09 0x09 ∙ xor_zero_r x)) bit hb)
    high hh

module _ (r y : ℕ) (hr : r < 128) (hy : y < 256) where
  -- twice the rule's register, by what falls out of r and what is the highest bit of y
  twice_in : crc7_in r (y / 128) * 2 ≡ bit_xor (bit_xor (r * 2 % 128 * 2) (r / 64 * 0x12)) (y / 128 * 0x12)
  unfolding crc7_in
  twice_in =
      ap (λ (x : ℕ). x * 2) (in_sums (r * 2 % 128) (r / 64) (y / 128) (omega arith) (omega arith))
      ∙ xor_double (bit_xor (r * 2 % 128) (r / 64 * 0x09)) (y / 128 * 0x09)
      ∙ ap₂ bit_xor (xor_double (r * 2 % 128) (r / 64 * 0x09) ∙ ap (bit_xor (r * 2 % 128 * 2)) (omega arith)) (omega arith)

  register_step : step left 8 crc7_polynomial (r * 2) ≡ bit_xor (r * 2 % 128 * 2) (r / 64 * 0x12)
  unfolding step
  register_step =
      let stays : r * 2 * 2 % 256 ≡ r * 2 % 128 * 2 = omega arith in
      let falls : r * 2 * 2 / 256 ≡ r / 64 = omega arith in
      ap₂ (λ (m f : ℕ). bit_xor m (f * 0x12)) stays falls

  rest_step : step left 8 crc7_polynomial y ≡ bit_xor (y * 2 % 256) (y / 128 * 0x12)
  unfolding step
  rest_step =
      let falls : y * 2 / 256 ≡ y / 128 = omega arith in
      ap (λ (f : ℕ). bit_xor (y * 2 % 256) (f * 0x12)) falls

  -- a step of the routine takes the highest bit of y into the rule's register, and the others of y move up
  pub bit_in : step left 8 crc7_polynomial (bit_xor (r * 2) y) ≡ bit_xor (crc7_in r (y / 128) * 2) (y * 2 % 256)
  bit_in =
      step_xor left 8 crc7_polynomial (r * 2) y (omega arith) hy
      ∙ ap₂ bit_xor register_step rest_step
      ∙ ap (bit_xor (bit_xor (r * 2 % 128 * 2) (r / 64 * 0x12))) (xor_comm (y * 2 % 256) (y / 128 * 0x12))
      ∙ sym (xor_assoc (bit_xor (r * 2 % 128 * 2) (r / 64 * 0x12)) (y / 128 * 0x12) (y * 2 % 256))
      ∙ ap (λ (x : ℕ). bit_xor x (y * 2 % 256)) (sym twice_in)

-- the rule's register keeps its seven bits
in_lt : (r bit : ℕ) → crc7_in r bit < 128
unfolding crc7_in
in_lt r bit = by (eqb (r / 64) bit)
  where
    by : (t : Bool) → pick t (r * 2 % 128) (bit_xor (r * 2 % 128) 0x09) < 128
    by true = omega arith
    by false = xor_lt 7 (r * 2 % 128) 0x09 (omega arith) (lit< tt)

-- ---- a character's eight bits

-- what is left of it after n of them
abbrev left_over : ℕ → ℕ → ℕ
left_over zero b = b
left_over (suc n) b = left_over n b * 2 % 256

-- one of them
one : (n k r b bit : ℕ) → r < 128 → left_over k b < 256 → left_over k b / 128 ≡ bit
    → steps left 8 crc7_polynomial (suc n) (bit_xor (r * 2) (left_over k b)) ≡ steps left 8 crc7_polynomial n (bit_xor (crc7_in r bit * 2) (left_over (suc k) b))
unfolding steps
one n k r b bit hr hy is =
    ap (steps left 8 crc7_polynomial n)
    (bit_in r (left_over k b) hr hy ∙ ap (λ (x : ℕ). bit_xor (crc7_in r x * 2) (left_over (suc k) b)) is)

-- all eight: nothing of the character is left over
pub character_in : (r b : ℕ) → r < 128 → b < 256 → steps left 8 crc7_polynomial 8 (bit_xor (r * 2) b) ≡ crc7_all r (bits 8 b) * 2
unfolding steps bits crc7_all
character_in r b hr hb =
    let bit : ℕ → ℕ = λ n. b / 2 ^ n % 2 in
    let r1 = crc7_in r (bit 7) in
    let r2 = crc7_in r1 (bit 6) in
    let r3 = crc7_in r2 (bit 5) in
    let r4 = crc7_in r3 (bit 4) in
    let r5 = crc7_in r4 (bit 3) in
    let r6 = crc7_in r5 (bit 2) in
    let r7 = crc7_in r6 (bit 1) in
    one 7 0 r b (bit 7) hr hb (agreed (λ (k : ℕ). k / 128) (λ (k : ℕ). k / 2 ^ 7 % 2) tt b hb)
    ∙ one 6 1 r1 b (bit 6) (in_lt r (bit 7)) (omega arith) (agreed (λ (k : ℕ). left_over 1 k / 128) (λ (k : ℕ). k / 2 ^ 6 % 2) tt b hb)
    ∙ one 5 2 r2 b (bit 5) (in_lt r1 (bit 6)) (omega arith) (agreed (λ (k : ℕ). left_over 2 k / 128) (λ (k : ℕ). k / 2 ^ 5 % 2) tt b hb)
    ∙ one 4 3 r3 b (bit 4) (in_lt r2 (bit 5)) (omega arith) (agreed (λ (k : ℕ). left_over 3 k / 128) (λ (k : ℕ). k / 2 ^ 4 % 2) tt b hb)
    ∙ one 3 4 r4 b (bit 3) (in_lt r3 (bit 4)) (omega arith) (agreed (λ (k : ℕ). left_over 4 k / 128) (λ (k : ℕ). k / 2 ^ 3 % 2) tt b hb)
    ∙ one 2 5 r5 b (bit 2) (in_lt r4 (bit 3)) (omega arith) (agreed (λ (k : ℕ). left_over 5 k / 128) (λ (k : ℕ). k / 2 ^ 2 % 2) tt b hb)
    ∙ one 1 6 r6 b (bit 1) (in_lt r5 (bit 2)) (omega arith) (agreed (λ (k : ℕ). left_over 6 k / 128) (λ (k : ℕ). k / 2 ^ 1 % 2) tt b hb)
    ∙ one 0 7 r7 b (bit 0) (in_lt r6 (bit 1)) (omega arith) (agreed (λ (k : ℕ). left_over 7 k / 128) (λ (k : ℕ). k / 2 ^ 0 % 2) tt b hb)
    ∙ ap (bit_xor (crc7_in r7 (bit 0) * 2)) (agreed (left_over 8) (λ (k : ℕ). 0) tt b hb)
    ∙ xor_zero_r (crc7_in r7 (bit 0) * 2)

all_lt : (r : ℕ) (rest : List ℕ) → r < 128 → crc7_all r rest < 128
unfolding crc7_all
all_lt r [] hr = hr
all_lt r (bit ∷ rest) hr = all_lt (crc7_in r bit) rest (in_lt r bit)

-- ---- all characters

from_register : (r : ℕ) (bytes : List ℕ) → r < 128 → ((i : ℕ) → get_or bytes i 0 < 256) → crc7_bytes (r * 2) bytes / 2 ≡ crc7_rule r bytes
unfolding crc7_bytes crc7_rule
from_register r [] hr hb = omega arith
from_register r (b ∷ bs) hr hb =
    ap (λ (x : ℕ). crc7_bytes x bs / 2) (character_in r b hr (hb 0))
    ∙ from_register (crc7_all r (bits 8 b)) bs (all_lt r (bits 8 b) hr) (λ i. hb (suc i))

pub crc7_bit_by_bit : Crc7IsBitByBit
unfolding crc7
crc7_bit_by_bit bytes hb = from_register 0 bytes (lit< tt) hb
