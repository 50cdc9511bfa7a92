-- Bytes of an input, whichever they are, and what is made of them on the way to the rows, fit the types that hold them.
-- Assumes nothing.
use Prim.Native.Nat.{ℕ, ◌+◌, ◌*◌, ◌/◌, ◌^◌, ◌<◌}
use native.Mathlib.Omega.{arith}
use lib.Bits.{bit_xor, xor_lt}
use mir.Syntax.{w8, w16, w64}
use mir.Val.{Fits}
use Rattle.crc.proofs.Byte.{both_lt}

pub below : (x : ℕ) → Fits w8 x → x < 256
below x h = omega (arith, h)

pub as_u16 : (x : ℕ) → Fits w8 x → Fits w16 x
as_u16 x h = omega (arith, h)

-- the second byte of two, eight places up, and both as one number
pub second_place_lem : (x : ℕ) → Fits w8 x → Fits w16 (x * 256)
second_place_lem x h = omega (arith, h)

pub both_fit : (a b : ℕ) → Fits w8 a → Fits w8 b → Fits w16 (a + b * 256)
both_fit a b ha hb = omega (arith, ha, hb)

-- a byte added to the register
pub added : (r x : ℕ) → r < 2 ^ 16 → Fits w8 x → Fits w64 (bit_xor r x)
added r x hr h = let hx : x < 2 ^ 16 = omega (arith, h) in omega (arith, xor_lt 16 r x hr hx)

-- two bytes added to it, and the high byte of that as a place in a row
module _ (r a b : ℕ) (hr : r < 2 ^ 16) (ha : Fits w8 a) (hb : Fits w8 b) where
  at_lt : bit_xor r (a + b * 256) < 2 ^ 16
  at_lt = both_lt r a b hr (below a ha) (below b hb)

  pub both_added : Fits w64 (bit_xor r (a + b * 256))
  both_added = omega (arith, at_lt)

  pub high_lt : bit_xor r (a + b * 256) / 256 < 256
  high_lt = omega (arith, at_lt)

  pub high_place : Fits w64 (bit_xor r (a + b * 256) / 256 * 2)
  high_place = omega (arith, at_lt)
