-- `arbitration::alone` meets its contract: the one key that starts with the prefix, and its own windows. Assumes nothing.
use mathlib.Core.Path.{refl}
use native.Mathlib.Omega.{arith}
use lib.ListN.{get_or}
use Rattle.arbitration.specs.Prefix.{starts}
use Rattle.arbitration.proofs.OneKey.{only_inside, decides_alone}
use Rattle.arbitration.proofs.alone.Goals as goal

pub offset_bounds-keys-place : goal.offset_bounds-keys-place
offset_bounds-keys-place c =
    let a = c.args in
    omega (arith, only_inside (starts a.windows a.prefix) a.keys.now c.first_with-place.result c.requires.2 c.first_with-place.ensures)

pub bounds-keys-place : goal.bounds-keys-place
bounds-keys-place c =
    let a = c.args in
    omega (arith, only_inside (starts a.windows a.prefix) a.keys.now c.first_with-place.result c.requires.2 c.first_with-place.ensures)

pub returns : goal.returns
returns c =
    let a = c.args in
    let place = c.first_with-place.result in
    decides_alone a.keys.now a.windows a.prefix a.dominant place (get_or a.keys.now place 0) c.one_left.result c.requires.2 c.first_with-place.ensures refl c.one_left.ensures
