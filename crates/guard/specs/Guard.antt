-- The guard before every call to devices: room first, then what was lent as a table or as registers; the input comes after both. Rule N2.
-- Assumes nothing.
use Rattle.refusal.specs.declared.Refusal.{Refusal}
use Rattle.std.specs.Prelude.{ℕ, Bool, ltb, [], Result, Ok, Err}
use Rattle.lists.specs.Choice.{pick}
use Rattle.refusal.specs.Number.{output_short, table_not_valid, at_place}
use Rattle.refusal.specs.Numbers.{Numbers, accepted_with, refused_with}

-- number 1 where the lent outputs have less room than is needed, then number 2 where what the call takes for valid is not
unfoldable pub guard : ℕ → ℕ → Bool → Result (Unit {0}) Refusal
guard needed room ok =
    pick (ltb room needed) (Err (at_place output_short 0)) (pick ok (Ok tt) (Err (at_place table_not_valid 0)))

-- its answer as numbers; one that passed has no values
abbrev pub guard_numbers : Result (Unit {0}) Refusal → Numbers
guard_numbers (Ok tt) = accepted_with []
guard_numbers (Err why) = refused_with why
