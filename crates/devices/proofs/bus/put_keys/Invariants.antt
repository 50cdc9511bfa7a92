-- `devices::bus::put_keys` meets its contract. The loop's invariant: the keys before i are written, the rest stay.
-- Assumes nothing.
use mathlib.Core.Path.{◌≡◌}
use Prim.Native.Nat.{◌≤◌}
use lib.ListN.{length, take}
use Rattle.lists.specs.Starting.{starting}
use Rattle.turns.specs.Request.{keys_of}
use Rattle.devices.proofs.bus.put_keys.Given as goal

abbrev pub invariant-loop-i : goal.invariant-loop-i
invariant-loop-i l = (l.i ≤ length l.serials) × (length l.keys ≡ length l.initial.keys) × (l.keys ≡ starting (take l.i (keys_of l.serials l.marks)) l.initial.keys)
