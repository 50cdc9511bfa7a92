-- `escapes::put_logical` meets its contract. Assumes nothing.
use mathlib.Core.Path.{refl, sym, ap, ◌∙◌}
use Prim.Native.Nat.{ℕ}
use native.Mathlib.Nat.{sub-zero}
use native.Mathlib.Omega.{arith}
use Rattle.escapes.specs.Logical.{logicals_at}
use Rattle.escapes.proofs.LogicalBytes.{putting_length, put_over, put_done, put_next, no_logical}
use Rattle.escapes.proofs.put_logical.Goals as goal

pub loop-i-init : goal.loop-i-init
loop-i-init c =
    let args = c.args in
    record { within = omega arith; held = omega arith; rest = ap (λ (m : ℕ). logicals_at args.run.now m args.at) (sym (sub-zero args.n)); output = refl }

pub shape_of-out-in_default : goal.shape_of-out-in_default
shape_of-out-in_default c = putting_length _ _ _ _ _ _ _ c.loop-i.invariant

pub returns-in_default : goal.returns-in_default
returns-in_default c =
    put_over _ _ _ _ _ _ _ c.loop-i.invariant
    (no_logical _ _ _ (omega (arith, c.loop-i-test.true)) c.in_default.field-0 (sym c.logical_at.ensures ∙ c.in_default.is))

pub bounds-out-i : goal.bounds-out-i
bounds-out-i c = omega (arith, c.min-i-end.ensures, putting_length _ _ _ _ _ _ _ c.loop-i.invariant)

pub loop-i-preserved : goal.loop-i-preserved
loop-i-preserved c =
    put_next _ _ _ _ _ _ _ c.loop-i.invariant (omega (arith, c.min-i-end.ensures))
    (omega (arith, c.min-i-end.ensures, putting_length _ _ _ _ _ _ _ c.loop-i.invariant)) c.in-Ok.value c.in-Ok.behind
    (sym c.logical_at.ensures ∙ c.in-Ok.is)

pub shape_of-out : goal.shape_of-out
shape_of-out c = putting_length _ _ _ _ _ _ _ c.loop-i.invariant

pub returns : goal.returns
returns c = put_done _ _ _ _ _ _ _ c.loop-i.invariant (omega (arith, c.min-i-end.ensures))
