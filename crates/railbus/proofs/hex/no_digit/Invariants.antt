-- `railbus::hex::no_digit` meets its contract. The loop's invariant: the first wrong one of the whole input is that of the part not yet looked at. Assumes nothing.
use mathlib.Core.Path.{◌≡◌}
use lib.ListN.{drop}
use Rattle.railbus.specs.Reading.{no_digit_from}
use Rattle.railbus.proofs.hex.no_digit.Given as goal

abbrev pub invariant-loop-at : goal.invariant-loop-at
invariant-loop-at l = no_digit_from 0 l.input ≡ no_digit_from l.at (drop l.at l.input)
