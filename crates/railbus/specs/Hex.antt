-- Numbers as text, rule R1: upper-case hex digits, the highest first.
-- Assumes nothing.
use Rattle.std.specs.Prelude.{ℕ, zero, suc, ◌+◌, ◌-◌, ◌*◌, ◌/◌, ◌%◌, ◌^◌, Bool, ◌&&◌, ◌||◌, List, [], ◌∷◌, leb, ltb}
use Rattle.lists.specs.Choice.{pick}

-- '0' to '9' and 'A' to 'F'
unfoldable pub is_digit : ℕ → Bool
is_digit c = (leb 0x30 c && leb c 0x39) || (leb 0x41 c && leb c 0x46)

-- what a digit stands for
unfoldable pub digit_value : ℕ → ℕ
digit_value c = pick (leb c 0x39) (c - 0x30) (c - 0x37)

-- the digit for a number below 16
unfoldable pub digit : ℕ → ℕ
digit v = pick (ltb v 10) (0x30 + v) (0x37 + v)

-- the n low digits of a number
unfoldable pub digits : ℕ → ℕ → List ℕ
digits zero v = []
digits (suc n) v = digit (v / 16 ^ n % 16) ∷ digits n v

-- the number that digits spell, behind one that others spelled before them
unfoldable pub spelled_from : ℕ → List ℕ → ℕ
spelled_from v [] = v
spelled_from v (c ∷ cs) = spelled_from (v * 16 + digit_value c) cs

abbrev pub spelled : List ℕ → ℕ
spelled cs = spelled_from 0 cs
