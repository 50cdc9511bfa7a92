-- Every promise on an answer is one on its numbers.
-- Assumes nothing.
use mathlib.Core.Path.{◌≡◌, ap}
use Rattle.refusal.specs.Numbers.{Numbers}

-- an answer that is what a definition gives has the number, the place and the values that the definition gives
pub same_numbers : {A : Type 0} (numbers : A → Numbers) {answer given : A} → answer ≡ given → numbers answer ≡ numbers given
same_numbers numbers e = ap numbers e
