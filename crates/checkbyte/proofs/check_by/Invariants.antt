-- `checkbyte::check_by` meets its contract. The loop's invariant: the check of all bytes is the check that the register
-- gives over the bytes not yet read, and the running value is the register, of 8 bits, with a bit above. Assumes nothing.
use mathlib.Core.Path.{◌≡◌}
use Prim.Native.Nat.{◌-◌, ◌≤◌, ◌<◌}
use lib.ListN.{length, drop}
use Rattle.escapes.specs.Escape.{expanded}
use Rattle.checkbyte.specs.Check.{ebus_bytes}
use Rattle.checkbyte.proofs.check_by.Given as goal

abbrev pub invariant-loop-i : goal.invariant-loop-i
invariant-loop-i l =
    (l.i ≤ length l.logical) × (256 ≤ l.running) × (l.running < 512)
    × (ebus_bytes (l.running - 256) (expanded (drop l.i l.logical)) ≡ ebus_bytes 0x00 (expanded l.logical))

abbrev pub decreases-loop-i : goal.decreases-loop-i
decreases-loop-i l = length l.logical - l.i
