-- A list whose start is overwritten.
-- Assumes nothing.
use Rattle.std.specs.Prelude.{ℕ, List, ◌++◌, length, drop}

-- the list starts with these numbers, and all others stay
abbrev pub starting : List ℕ → List ℕ → List ℕ
starting new old = new ++ drop (length new) old
