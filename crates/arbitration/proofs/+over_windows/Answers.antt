-- The proof of the cycle of calls {over_windows}. The measure is the number of windows still to come.
-- Assumes nothing.
use mathlib.Core.Path.{sym, ◌∙◌}
use Prim.Native.Nat.{◌+◌, ◌*◌, ◌-◌}
use native.Mathlib.Omega.{arith}
use Rattle.lists.proofs.Counting.{none_counted, some_counted}
use Rattle.arbitration.specs.Prefix.{starts}
use Rattle.arbitration.proofs.OneKey.{first_equal}
use Rattle.arbitration.proofs.OneWindow.{decides_last, decides_zero, decides_one, goes_on, room_on, prefix_fits}
use Rattle.arbitration.proofs.+over_windows.Goals as goal

pub first_with-requires : goal.first_with-requires
first_with-requires t c = omega arith

pub returns-then-windows-eq0 : goal.returns-then-windows-eq0
returns-then-windows-eq0 t c =
    let a = c.args in
    decides_last a.keys.now a.windows a.prefix a.dominant c.first_with.result (omega arith) c.requires.3 (c.first_with.ensures ∙ first_equal a.windows a.prefix a.keys.now (omega arith))

pub overflow_sub-next : goal.overflow_sub-next
overflow_sub-next t c = omega arith

pub overflow_mul-zero : goal.overflow_mul-zero
overflow_mul-zero t c =
    let a = c.args in
    omega (arith, prefix_fits (a.windows - 1) (a.prefix * 2 + 1) (room_on a.keys.now (a.windows - 1) a.windows a.prefix 0 (omega arith) c.requires.1))

pub how_many-zeros-requires : goal.how_many-zeros-requires
how_many-zeros-requires t c = omega arith

pub overflow_add-zero : goal.overflow_add-zero
overflow_add-zero t c =
    let a = c.args in
    omega (arith, prefix_fits (a.windows - 1) (a.prefix * 2 + 1) (room_on a.keys.now (a.windows - 1) a.windows a.prefix 0 (omega arith) c.requires.1))

pub over_windows-requires : goal.over_windows-requires
over_windows-requires t c =
    let a = c.args in
    let next = a.windows - 1 in
    let room = room_on a.keys.now next a.windows a.prefix a.dominant (omega arith) c.requires.1 in
    let none = none_counted (starts next (a.prefix * 2)) a.keys.now (sym c.how_many-zeros.ensures ∙ c.if-zeros-eq0.true) in
    (omega (arith, c.decreases), (omega arith, room, omega arith, goes_on a.keys.now next a.windows a.prefix a.dominant (omega arith) c.requires.3 none))

pub returns-then-zeros-eq0 : goal.returns-then-zeros-eq0
returns-then-zeros-eq0 t c =
    let a = c.args in
    let next = a.windows - 1 in
    c.over_windows.ensures ∙ decides_one a.keys.now next a.windows a.prefix a.dominant (omega arith) (none_counted (starts next (a.prefix * 2)) a.keys.now (sym c.how_many-zeros.ensures ∙ c.if-zeros-eq0.true))

pub overflow_add-dominant : goal.overflow_add-dominant
overflow_add-dominant t c = omega arith

pub alone-requires : goal.alone-requires
alone-requires t c = (omega arith, omega arith, sym c.how_many-zeros.ensures ∙ c.if-zeros-eq1.true)

pub returns-then-zeros-eq1 : goal.returns-then-zeros-eq1
returns-then-zeros-eq1 t c =
    let a = c.args in
    let next = a.windows - 1 in
    c.alone.ensures ∙ decides_zero a.keys.now next a.windows a.prefix a.dominant (omega arith) (some_counted (starts next (a.prefix * 2)) a.keys.now (omega (arith, c.how_many-zeros.ensures, c.if-zeros-eq1.true)))

pub overflow_add-dominant-2 : goal.overflow_add-dominant-2
overflow_add-dominant-2 t c = omega arith

pub over_windows-requires-2 : goal.over_windows-requires-2
over_windows-requires-2 t c =
    let a = c.args in
    let next = a.windows - 1 in
    let room = room_on a.keys.now next a.windows a.prefix a.dominant (omega arith) c.requires.1 in
    (omega (arith, c.decreases), (omega arith, omega (arith, room), omega arith, some_counted (starts next (a.prefix * 2)) a.keys.now (omega (arith, c.how_many-zeros.ensures, c.if-zeros-eq0.false))))

pub returns : goal.returns
returns t c =
    let a = c.args in
    let next = a.windows - 1 in
    c.over_windows-2.ensures ∙ decides_zero a.keys.now next a.windows a.prefix a.dominant (omega arith) (some_counted (starts next (a.prefix * 2)) a.keys.now (omega (arith, c.how_many-zeros.ensures, c.if-zeros-eq0.false)))
