-- `framing::check_of` meets its contract. Assumes nothing.
use mathlib.Core.Path.{ap}
use mathlib.Core.List.{[], ◌∷◌}
use Prim.Native.Nat.{ℕ, ◌/◌, ◌%◌}
use Rattle.framing.specs.Layout.{check_bytes}
use Rattle.framing.proofs.check_of.Goals as goal

pub returns : goal.returns
unfolding check_bytes
returns c = ap (λ (n : ℕ). n % 256 ∷ n / 256 ∷ []) c.modbus_check-check.ensures
