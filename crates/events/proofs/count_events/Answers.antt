-- `events::count_events` meets its contract. Assumes nothing.
use mathlib.Core.Path.{sym, ◌∙◌}
use native.Mathlib.Omega.{arith}
use Rattle.events.proofs.EventAt.{found_further, found_within}
use Rattle.events.proofs.EventList.{count_none, count_more, count_stops, count_ends}
use Rattle.events.proofs.count_events.Goals as goal

pub loop-i-init : goal.loop-i-init
loop-i-init c = count_none c.args.events.now

pub returns-in_err-event : goal.returns-in_err-event
returns-in_err-event c = c.from_residual.ensures ∙ count_stops c.args.events.now c.loop-i.count c.loop-i.i c.loop-i.invariant c.loop-i-test.true (sym c.in_err-event.ensures)

pub overflow_add-count : goal.overflow_add-count
overflow_add-count c = omega (arith, c.loop-i.invariant.0)

pub loop-i-smaller : goal.loop-i-smaller
loop-i-smaller c =
    let found = sym c.in_ok-event.ensures in
    omega (arith, found_further c.args.events.now c.loop-i.i found, found_within c.args.events.now c.loop-i.i found)

pub loop-i-preserved : goal.loop-i-preserved
loop-i-preserved c = count_more c.args.events.now c.loop-i.count c.loop-i.i c.loop-i.invariant c.loop-i-test.true (sym c.in_ok-event.ensures)

pub returns : goal.returns
returns c = count_ends c.args.events.now c.loop-i.count c.loop-i.i c.loop-i.invariant c.loop-i-test.false
