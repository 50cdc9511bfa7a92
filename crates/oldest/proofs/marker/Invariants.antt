-- `oldest::marker` meets its contract: what is left decides as all events do. Assumes nothing.
use mathlib.Core.Path.{◌≡◌}
use Prim.Native.Nat.{◌*◌, ◌-◌}
use lib.ListN.{drop}
use Rattle.queues.specs.Queues.{queued_from}
use Rattle.oldest.specs.Oldest.{some_urgent}
use Rattle.oldest.proofs.marker.Given as goal

abbrev pub invariant-loop-slot : goal.invariant-loop-slot
invariant-loop-slot l = some_urgent (queued_from (l.count - l.slot) (drop (13 * l.slot) l.slots)) ≡ some_urgent (queued_from l.count l.slots)
