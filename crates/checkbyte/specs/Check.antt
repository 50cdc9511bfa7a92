-- The eBUS check byte: rules E1 and E2.
-- Assumes nothing.
use Rattle.std.specs.Prelude.{ℕ, List, [], ◌∷◌}
use Rattle.crc.specs.Register.{enter, bits}
use Rattle.escapes.specs.Escape.{expanded}

abbrev pub ebus_polynomial : ℕ
ebus_polynomial = 0x9B

-- rule E1: the bits of each byte enter at the low end of the register, the highest first, and nothing behind the last
unfoldable pub ebus_bytes : ℕ → List ℕ → ℕ
ebus_bytes register [] = register
ebus_bytes register (b ∷ bs) = ebus_bytes (enter 8 ebus_polynomial register (bits 8 b)) bs

-- rule E2: of logical bytes, over what stands on the wire for them, starting at 00
unfoldable pub ebus_check : List ℕ → ℕ
ebus_check logical = ebus_bytes 0x00 (expanded logical)
