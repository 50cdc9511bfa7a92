-- `polls::packing::how_many_fit` meets its contract. The loop's invariant: so many fit, and with what is left of the room the
-- slots behind them decide. Assumes nothing.
use Prim.Native.Nat.{◌-◌, ◌*◌, ◌≤◌}
use Rattle.polls.proofs.EventSlots.{Fitting}
use Rattle.polls.proofs.packing.how_many_fit.Given as goal

abbrev pub invariant-loop-fit : goal.invariant-loop-fit
invariant-loop-fit l = (l.used ≤ l.most) × Fitting l.count l.most l.slots (l.most - l.used) l.fit (13 * l.fit)
