-- `polls::keys::put_keys` meets its contract. The loop's invariant: the keys before i are written, the rest stay.
-- Assumes nothing.
use mathlib.Core.Path.{◌≡◌}
use Prim.Native.Nat.{◌-◌, ◌≤◌}
use lib.ListN.{length, take}
use Rattle.lists.specs.Starting.{starting}
use Rattle.polls.specs.Poll.{poll_keys}
use Rattle.polls.specs.Inner.{queues_of}
use Rattle.polls.proofs.keys.put_keys.Given as goal

abbrev pub invariant-loop-i : goal.invariant-loop-i
invariant-loop-i l = (l.i ≤ length l.ids) × (length l.keys ≡ length l.initial.keys) × (l.keys ≡ starting (take l.i (poll_keys l.request l.ids (queues_of l.counts l.slots))) l.initial.keys)
