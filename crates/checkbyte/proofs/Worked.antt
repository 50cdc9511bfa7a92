-- The W rows of check bytes in docs/RULES.md, of the definitions.
-- Assumes nothing.
use mathlib.Core.Path.{◌≡◌, refl}
use mathlib.Core.List.{[], ◌∷◌}
use Rattle.crc.specs.Register.{step, enter, bits}
use Rattle.escapes.specs.Escape.{escaped, expanded}
use Rattle.checkbyte.specs.Check.{ebus_bytes, ebus_check}

-- W1 check byte of 10 08 B5 11 01 01 is 89
pub w1 : ebus_check (0x10 ∷ 0x08 ∷ 0xB5 ∷ 0x11 ∷ 0x01 ∷ 0x01 ∷ []) ≡ 0x89
unfolding ebus_check ebus_bytes enter step bits escaped expanded
w1 = refl

-- W2 of AA it is EC
pub w2 : ebus_check (0xAA ∷ []) ≡ 0xEC
unfolding ebus_check ebus_bytes enter step bits escaped expanded
w2 = refl

-- W3 of A9 it is ED
pub w3 : ebus_check (0xA9 ∷ []) ≡ 0xED
unfolding ebus_check ebus_bytes enter step bits escaped expanded
w3 = refl

-- W4 of nothing it is 00
pub w4 : ebus_check [] ≡ 0x00
unfolding ebus_check ebus_bytes expanded
w4 = refl
