-- The Modbus check is the bit-by-bit rule that the public routine writes (specs/BitByBit.antt), on every input.
-- Assumes nothing.
use mathlib.Core.Path.{◌≡◌, refl, ap, ◌∙◌}
use mathlib.Core.List.{List, [], ◌∷◌}
use Prim.Native.Nat.{ℕ, zero, suc, ◌*◌, ◌/◌, ◌%◌}
use native.Mathlib.Nat.{mod-lt}
use lib.Bits.{bit_xor, xor_zero_r}
use lib.Dec.{eqb, lit<}
use Rattle.lists.specs.Choice.{pick}
use Rattle.crc.specs.Register.{right, step, steps}
use Rattle.crc.specs.Check.{modbus_polynomial, modbus_bytes, modbus_check}
use Rattle.crc.specs.BitByBit.{modbus_one, modbus_times, modbus_rule, ModbusIsBitByBit}
use Rattle.crc.proofs.Xor.{bit_cases}

one_step : (r : ℕ) → step right 16 modbus_polynomial r ≡ modbus_one r
unfolding step modbus_one
one_step r =
    bit_cases (λ (low : ℕ). bit_xor (r / 2) (low * modbus_polynomial) ≡ pick (eqb low 1) (bit_xor (r / 2) 0xA001) (r / 2)) (xor_zero_r (r / 2)) refl
    (r % 2) (mod-lt r (lit< tt))

pub many_steps : (n r : ℕ) → steps right 16 modbus_polynomial n r ≡ modbus_times n r
unfolding steps modbus_times
many_steps zero r = refl
many_steps (suc n) r = many_steps n (step right 16 modbus_polynomial r) ∙ ap (modbus_times n) (one_step r)

from_register : (r : ℕ) (bytes : List ℕ) → modbus_bytes r bytes ≡ modbus_rule r bytes
unfolding modbus_bytes modbus_rule
from_register r [] = refl
from_register r (b ∷ bs) =
    from_register (steps right 16 modbus_polynomial 8 (bit_xor r b)) bs ∙ ap (λ (x : ℕ). modbus_rule x bs) (many_steps 8 (bit_xor r b))

pub modbus_bit_by_bit : ModbusIsBitByBit
unfolding modbus_check
modbus_bit_by_bit bytes = from_register 0xFFFF bytes
