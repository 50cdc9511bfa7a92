-- `queues::validity::queues_right` meets its contract: each device before i has a right queue. Assumes nothing.
use mathlib.Core.Path.{◌≡◌}
use mathlib.Core.Bool.{true}
use Prim.Native.Nat.{ℕ, ◌≤◌, ◌<◌}
use lib.ListN.{length}
use Rattle.queues.specs.Queues.{device_right}
use Rattle.queues.proofs.validity.queues_right.Given as goal

abbrev pub invariant-loop-i : goal.invariant-loop-i
invariant-loop-i l = (l.i ≤ length l.counts) × ((j : ℕ) → j < l.i → device_right l.lasts l.counts l.slots j ≡ true)
