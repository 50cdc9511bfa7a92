-- The proof of the cycle of calls {one_left}. The measure is the number of windows still to come.
-- Assumes nothing.
use mathlib.Core.Path.{◌∙◌}
use Prim.Native.Nat.{◌-◌, ◌/◌, ◌%◌, ◌^◌}
use native.Mathlib.Omega.{arith}
use borrow.Author.Tests.{eq-eqb, ne_eqb}
use Rattle.arbitration.proofs.OneKey.{no_window, window_zero, window_one}
use Rattle.arbitration.proofs.+one_left.Goals as goal

pub overflow_sub-next : goal.overflow_sub-next
overflow_sub-next t c = omega arith

pub overflow_shr-key : goal.overflow_shr-key
overflow_shr-key t c = omega arith

pub overflow_add-dominant : goal.overflow_add-dominant
overflow_add-dominant t c = omega arith

pub one_left-requires : goal.one_left-requires
one_left-requires t c = (omega (arith, c.decreases), (omega arith, omega arith))

pub returns-then-key-next-eq0 : goal.returns-then-key-next-eq0
returns-then-key-next-eq0 t c =
    let a = c.args in
    let next = a.windows - 1 in
    c.one_left.ensures ∙ window_zero next a.windows a.key a.dominant (omega arith) (eq-eqb (a.key / 2 ^ next % 2) 0 c.if-key-next-eq0.true)

pub one_left-requires-then-windows-gt0 : goal.one_left-requires-then-windows-gt0
one_left-requires-then-windows-gt0 t c = (omega (arith, c.decreases), (omega arith, omega arith))

pub returns-then-windows-gt0 : goal.returns-then-windows-gt0
returns-then-windows-gt0 t c =
    let a = c.args in
    let next = a.windows - 1 in
    c.one_left-then-windows-gt0.ensures ∙ window_one next a.windows a.key a.dominant (omega arith) (ne_eqb (a.key / 2 ^ next % 2) 0 c.if-key-next-eq0.false)

pub returns : goal.returns
returns t c = no_window c.args.windows c.args.key c.args.dominant (omega (arith, c.if-windows-gt0.false))
