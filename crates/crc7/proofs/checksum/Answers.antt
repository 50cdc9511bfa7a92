-- `crc7::checksum` meets its contract. Assumes nothing.
use mathlib.Core.Path.{ap, sym, subst}
use Prim.Native.Nat.{ℕ, ◌+◌, ◌<◌}
use native.Mathlib.Omega.{arith}
use Rattle.crc.proofs.Fitting.{below}
use Rattle.crc7.specs.Check.{examined}
use Rattle.crc7.proofs.Character.{crc7_lt}
use Rattle.crc7.proofs.checksum.Goals as goal

pub overflow_add-result : goal.overflow_add-result
overflow_add-result c =
    let small : c.crc7.result < 128 = subst (λ (x : ℕ). x < 128) (sym c.crc7.ensures) (crc7_lt _ (λ i. below _ (c.type_inv.characters i))) in
    omega arith

pub returns : goal.returns
returns c = ap (λ (x : ℕ). examined + x) c.crc7.ensures
