-- An answer as plain numbers. Beside each enum that a call answers stands a definition of its numbers, case by case: here
-- that of `Written`, and in the crates above that of each enum of theirs.
-- Assumes nothing.
use Rattle.std.specs.Prelude.{ℕ, List, [], ◌∷◌, get_or, Result, Ok, Err}
use Rattle.refusal.specs.declared.Refusal.{Refusal}

-- rule N1's number, 0 where nothing is refused, its place, and the values of what was accepted, in their order
pub record Numbers : Type 0 where
  pub number : ℕ
  pub place : ℕ
  pub values : List ℕ

abbrev pub accepted_with : List ℕ → Numbers
accepted_with values = record { number = 0; place = 0; values = values }

abbrev pub refused_with : Refusal → Numbers
refused_with why = record { number = why.number; place = why.place; values = [] }

-- a value by its place among them; 0 where there is none
abbrev pub value : Numbers → ℕ → ℕ
value n i = get_or n.values i 0

-- a writer: how many bytes it wrote
abbrev pub written_numbers : Result ℕ Refusal → Numbers
written_numbers (Ok n) = accepted_with (n ∷ [])
written_numbers (Err why) = refused_with why
