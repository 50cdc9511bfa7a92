-- Rule E5: undoing the escapes of a whole input, or the first 3, 4 or 5 in it.
-- Assumes nothing.
use Rattle.refusal.specs.declared.Refusal.{Refusal}
use Rattle.std.specs.Prelude.{ℕ, zero, suc, List, [], ◌∷◌, ltb, length, Result, Ok, Err}
use Rattle.lists.specs.Choice.{pick}
use Rattle.refusal.specs.Output.{Output, bytes, refused}
use Rattle.escapes.specs.Logical.{logical_at}

-- one byte more in front of what the rest gives
abbrev pub before : ℕ → Output → Output
before b (bytes bs) = bytes (b ∷ bs)
before b (refused why) = refused why

-- a logical byte, and then what the rest gives from the position behind it
abbrev pub with_rest : Result (ℕ × ℕ) Refusal → (ℕ → Output) → Output
with_rest (Ok (b, next)) rest = before b (rest next)
with_rest (Err why) rest = refused why

-- from a position on, with at most n logical bytes to come
unfoldable pub undone_from : List ℕ → ℕ → ℕ → Output
undone_from raw zero at = bytes []
undone_from raw (suc n) at = pick (ltb at (length raw)) (with_rest (logical_at raw at) (undone_from raw n)) (bytes [])

-- the whole input: it has no more logical bytes than raw ones
unfoldable pub undone : List ℕ → Output
undone raw = undone_from raw (length raw) 0
