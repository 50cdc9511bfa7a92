-- The W row of escapes in docs/RULES.md, of the definitions.
-- Assumes nothing.
use mathlib.Core.Path.{◌≡◌, refl}
use mathlib.Core.List.{[], ◌∷◌}
use Rattle.escapes.specs.Escape.{escaped, expanded}

-- W5 A9 AA goes out as A9 00 A9 01
pub w5 : expanded (0xA9 ∷ 0xAA ∷ []) ≡ 0xA9 ∷ 0x00 ∷ 0xA9 ∷ 0x01 ∷ []
unfolding escaped expanded
w5 = refl
