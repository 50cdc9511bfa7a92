-- `polls::packing::how_many_fit` meets its contract. Assumes nothing.
use mathlib.Core.Path.{◌≡◌, sym, subst, ◌∙◌}
use Prim.Native.Nat.{ℕ, ◌+◌, ◌-◌, ◌*◌}
use native.Mathlib.Omega.{arith}
use lib.ListN.{get_or}
use Rattle.polls.proofs.EventSlots.{Fitting, fitting_none, fitting_stops, fitting_more, fitting_all}
use Rattle.polls.proofs.packing.how_many_fit.Goals as goal

pub loop-fit-init : goal.loop-fit-init
loop-fit-init c =
    let all : c.args.most ≡ c.args.most - 0 = omega arith in
    (omega arith, subst (λ (room : ℕ). Fitting c.args.count c.args.most c.args.slots.now room 0 0) all (fitting_none c.args.count c.args.most c.args.slots.now c.requires.right))

pub returns-then-next-room : goal.returns-then-next-room
returns-then-next-room c = sym (fitting_stops c.args.count c.args.most c.args.slots.now (c.args.most - c.loop-fit.used) c.loop-fit.fit (13 * c.loop-fit.fit) c.requires.few c.requires.long c.loop-fit.invariant.1 (omega arith) (omega arith))

pub loop-fit-preserved : goal.loop-fit-preserved
loop-fit-preserved c =
    let a = c.args in
    let fit = c.loop-fit.fit in
    let size = 4 + get_or a.slots.now (13 * fit + 1) 0 in
    let left : a.most - c.loop-fit.used - size ≡ a.most - (c.loop-fit.used + size) = omega arith in
    let next : 13 * fit + 13 ≡ 13 * (fit + 1) = omega arith in (
      omega arith,
      subst (λ (at : ℕ). Fitting a.count a.most a.slots.now (a.most - (c.loop-fit.used + size)) (fit + 1) at) next
          (subst (λ (room : ℕ). Fitting a.count a.most a.slots.now room (fit + 1) (13 * fit + 13)) left
          (fitting_more a.count a.most a.slots.now (a.most - c.loop-fit.used) fit (13 * fit) c.requires.few c.requires.long c.loop-fit.invariant.1 (omega arith) (omega arith))),
    )

pub returns : goal.returns
returns c =
    let all : c.args.count ≡ c.loop-fit.fit = omega (arith, c.loop-fit.invariant.1.so_far) in
    all ∙ sym (fitting_all c.args.count c.args.most c.args.slots.now (c.args.most - c.loop-fit.used) c.loop-fit.fit (13 * c.loop-fit.fit) c.requires.few c.requires.long c.loop-fit.invariant.1 (omega arith))
