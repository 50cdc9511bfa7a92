-- `telegram::collect` meets its contract. Assumes nothing.
use mathlib.Core.Path.{sym, ap, ◌∙◌}
use Prim.Native.Nat.{ℕ}
use native.Mathlib.Omega.{arith}
use Rattle.refusal.specs.Number.{at_place}
use Rattle.std.specs.Prelude.{Err}
use Rattle.telegram.specs.Inner.{why_of}
use Rattle.telegram.proofs.CollectTurn.{reach_start, reach_end, reach_refused, reach_fault, reach_next}
use Rattle.telegram.proofs.collect.Goals as goal

pub loop-place-init : goal.loop-place-init
loop-place-init c = (omega arith, omega arith, λ so_far size final. reach_start _ _ _ so_far _ _ _ _ size final)

pub returns-in_default : goal.returns-in_default
returns-in_default c =
    λ so_far size final.
    ap Err (c.why_of.ensures ∙ ap why_of c.in_default.is)
    ∙ reach_refused _ _ _ _ _ _ _ _ _ _ _ (c.loop-place.invariant.2 so_far size final) c.loop-place-test.true c.in_default.field-0 (sym c.logical_at-x.ensures ∙ c.in_default.is)

pub fault_at-fault-requires : goal.fault_at-fault-requires
fault_at-fault-requires c = λ e. omega (arith, c.requires.command_bound e, c.loop-place.invariant.0)

pub returns-then-fault-ne0 : goal.returns-then-fault-ne0
returns-then-fault-ne0 c =
    λ so_far size final.
    c.refused.ensures ∙ ap (λ (k : ℕ). Err (at_place k c.loop-place.at)) c.fault_at-fault.ensures
    ∙ reach_fault _ _ _ _ _ _ _ _ _ _ _ (c.loop-place.invariant.2 so_far size final) c.loop-place-test.true c.in-Ok.b c.in-Ok.next
    (sym c.logical_at-x.ensures ∙ c.in-Ok.is) (λ z. c.if-fault-ne0.true (c.fault_at-fault.ensures ∙ z))

pub overflow_add-len : goal.overflow_add-len
overflow_add-len c = omega (arith, c.requires.n_bound)

pub loop-place-preserved : goal.loop-place-preserved
loop-place-preserved c = (
  omega arith,
  omega arith,
  λ so_far size final.
      reach_next _ _ _ _ _ _ _ _ _ _ _ (c.loop-place.invariant.2 so_far size final) c.loop-place-test.true c.in-Ok.b c.in-Ok.next
      (sym c.logical_at-x.ensures ∙ c.in-Ok.is) (sym c.fault_at-fault.ensures ∙ c.if-fault-ne0.false),
)

pub returns : goal.returns
returns c = λ so_far size final. reach_end _ _ _ _ _ _ _ _ _ _ _ (c.loop-place.invariant.2 so_far size final) (omega arith)
