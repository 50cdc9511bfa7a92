-- What only contracts of private functions speak of.
-- Assumes nothing.
use Rattle.std.specs.Prelude.{◌≡◌, List, ℕ, ◌<◌, length, get_or}
use Rattle.escapes.specs.Escape.{esc, syn}

-- a byte stands at this place that goes out as it is
abbrev pub PlainAt : List ℕ → ℕ → Type 0
PlainAt logical i = (i < length logical) × (get_or logical i 0 ≡ esc → ⊥) × (get_or logical i 0 ≡ syn → ⊥)
