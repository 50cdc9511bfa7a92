-- The largest id: no byte above it is one.
-- Assumes nothing.
use mathlib.Core.Path.{◌≡◌}
use mathlib.Core.Bool.{true}
use Prim.Native.Nat.{ℕ, ◌≤◌}
use lib.Dec.{leb}
use borrow.Author.Tests.{leb-true}
use Rattle.lists.proofs.Cases.{both_second}
use Rattle.events.specs.Events.{is_id}

pub id_most : (byte : ℕ) → is_id byte ≡ true → byte ≤ 247
unfolding is_id
id_most byte is = leb-true byte 247 (both_second (leb 1 byte) (leb byte 247) is)
