-- `escapes::expand_into` meets its contract. The loop's invariant: the output starts with the first n raw bytes,
-- and what is left of them is what the bytes not yet read take.
-- Assumes nothing.
use Prim.Native.Nat.{◌≤◌}
use lib.ListN.{length}
use Rattle.escapes.proofs.ExpandTurn.{Filled}
use Rattle.escapes.proofs.expand_into.Given as goal

abbrev pub invariant-loop-byte : goal.invariant-loop-byte
invariant-loop-byte l = (l.byte-index ≤ length l.logical) × Filled l.logical l.initial.out l.out l.n l.byte-index
