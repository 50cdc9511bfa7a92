-- `feeding::attempt::copy_logical` meets its contract. The loop's invariant: the output starts with the first i of the bytes, and
-- the others stand at next.
-- Assumes nothing.
use mathlib.Core.Path.{◌≡◌}
use mathlib.Core.List.{List}
use Prim.Native.Nat.{ℕ}
use lib.ListN.{length}
use Rattle.escapes.specs.Logical.{logicals_at}
use Rattle.exchange.proofs.Copying.{Copying}
use Rattle.feeding.proofs.attempt.copy_logical.Given as goal

abbrev pub invariant-loop-i : goal.invariant-loop-i
invariant-loop-i l = (length (logicals_at l.run l.len 0) ≡ l.len) × ((rest : List ℕ) × Copying l.run (logicals_at l.run l.len 0) rest l.initial.out l.out l.i l.next)
