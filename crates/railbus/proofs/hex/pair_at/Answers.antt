-- `railbus::hex::pair_at` meets its contract. Assumes nothing.
use mathlib.Core.Path.{sym, ap₂, ◌∙◌}
use Prim.Native.Nat.{ℕ, ◌+◌, ◌*◌}
use Rattle.railbus.proofs.Digits.{first_digit, second_digit, spelled_pair}
use Rattle.railbus.proofs.hex.pair_at.Goals as goal

pub value-requires : goal.value-requires
value-requires c = first_digit c.args.input.now c.args.at c.requires.0 c.requires.1

pub value-requires-2 : goal.value-requires-2
value-requires-2 c = second_digit c.args.input.now c.args.at c.requires.0 c.requires.1

pub returns : goal.returns
returns c = ap₂ (λ (a b : ℕ). a * 16 + b) c.value.ensures.0 c.value-2.ensures.0 ∙ sym (spelled_pair c.args.input.now c.args.at c.requires.0)
