-- `feeding::attempt::keep` meets its contract: the bytes lie behind those before the place.
-- Assumes nothing.
use mathlib.Core.Path.{◌≡◌}
use Prim.Native.Nat.{◌+◌, ◌-◌}
use native.Mathlib.Omega.{arith}
use lib.ListN.{length}
use Rattle.escapes.specs.Logical.{logicals_at}
use Rattle.feeding.proofs.Kept.{kept_part}
use Rattle.feeding.proofs.attempt.keep.Goals as goal

pub returns : goal.returns
returns c =
    let kept = c.args.kept.now in
    let n = length kept - c.args.at in
    let size : length kept ≡ c.args.at + n = omega (arith, c.requires.1) in
    kept_part kept (logicals_at c.args.run.now c.args.len 0) _ c.args.at n size c.copy_logical.ensures
