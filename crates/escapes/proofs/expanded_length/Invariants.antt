-- `escapes::expanded_length` meets its contract. The loop's invariant: n, and what the bytes not yet read take, make the whole length.
-- Assumes nothing.
use mathlib.Core.Path.{◌≡◌}
use Prim.Native.Nat.{◌+◌, ◌*◌, ◌≤◌}
use lib.ListN.{length, drop}
use Rattle.escapes.specs.Escape.{expanded}
use Rattle.escapes.proofs.expanded_length.Given as goal

abbrev pub invariant-loop-byte : goal.invariant-loop-byte
invariant-loop-byte l = (l.byte-index ≤ length l.logical) × (l.n ≤ 2 * l.byte-index) × (l.n + length (expanded (drop l.byte-index l.logical)) ≡ length (expanded l.logical))
