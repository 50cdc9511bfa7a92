-- `escapes::undone_length` meets its contract. The loop's invariant: the written from the start is the written from here, with the n bytes already read counted.
-- Assumes nothing.
use mathlib.Core.Path.{◌≡◌}
use Prim.Native.Nat.{◌-◌, ◌≤◌}
use lib.ListN.{length}
use Rattle.refusal.specs.Output.{written}
use Rattle.escapes.specs.Undo.{undone_from, undone}
use Rattle.escapes.proofs.LogicalBytes.{counted}
use Rattle.escapes.proofs.undone_length.Given as goal

abbrev pub invariant-loop-at : goal.invariant-loop-at
invariant-loop-at l = (l.n ≤ l.at) × (l.at ≤ length l.raw) × (counted l.n (undone_from l.raw (length l.raw - l.n) l.at) ≡ written (undone l.raw))

abbrev pub decreases-loop-at : goal.decreases-loop-at
decreases-loop-at l = length l.raw - l.at
