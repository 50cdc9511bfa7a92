-- `oldest::wire_length` meets its contract: what is counted and what is left are all. Assumes nothing.
use mathlib.Core.Path.{◌≡◌}
use Prim.Native.Nat.{◌+◌, ◌-◌, ◌*◌, ◌≤◌}
use lib.ListN.{drop}
use Rattle.oldest.specs.Oldest.{wire_length}
use Rattle.oldest.proofs.wire_length.Given as goal

abbrev pub invariant-loop-slot : goal.invariant-loop-slot
invariant-loop-slot l = (l.bytes ≤ 259 * l.slot) × (l.bytes + wire_length (l.count - l.slot) (drop (13 * l.slot) l.slots) ≡ wire_length l.count l.slots)
