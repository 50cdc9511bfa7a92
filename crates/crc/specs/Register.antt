-- The register of a check, one step over direction, width and polynomial. eBUS is left, 8, 9B; Modbus is right, 16, A001; Railbus is left, 8, 12.
-- Assumes nothing.
use Rattle.std.specs.Prelude.{ℕ, zero, suc, ◌*◌, ◌/◌, ◌%◌, ◌^◌, List, [], ◌∷◌}
use Rattle.std.specs.Int.Bits.{bit_xor}

-- which way a register moves: left towards its high end, right towards its low end
pub data Direction : Type 0 where
  left : Direction
  right : Direction

-- what stays of a register of w bits that moves one place
abbrev pub moved : Direction → ℕ → ℕ → ℕ
moved left w r = r * 2 % 2 ^ w
moved right w r = r / 2

-- the bit that falls out of it
abbrev pub fallen : Direction → ℕ → ℕ → ℕ
fallen left w r = r * 2 / 2 ^ w
fallen right w r = r % 2

-- one step: the register moves, and where a 1 falls out the polynomial p is added (bit by bit, without carry)
unfoldable pub step : Direction → ℕ → ℕ → ℕ → ℕ
step d w p r = bit_xor (moved d w r) (fallen d w r * p)

-- n steps
unfoldable pub steps : Direction → ℕ → ℕ → ℕ → ℕ → ℕ
steps d w p zero r = r
steps d w p (suc n) r = steps d w p n (step d w p r)

-- bits that enter at the low end of a register that moves left, the first of the list first
unfoldable pub enter : ℕ → ℕ → ℕ → List ℕ → ℕ
enter w p r [] = r
enter w p r (bit ∷ bits) = enter w p (bit_xor (step left w p r) bit) bits

-- the n low bits of a number, highest first
unfoldable pub bits : ℕ → ℕ → List ℕ
bits zero b = []
bits (suc n) b = b / 2 ^ n % 2 ∷ bits n b
