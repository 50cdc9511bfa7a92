-- `checkbyte::wire_check` meets its contract. The loop's invariant: the bytes not yet read are bytes, the check of all is the check
-- that the register gives over them, and the running value is the register with a bit above. Assumes nothing.
use Rattle.std.proofs.Common.{◌≡◌, ◌-◌, ◌≤◌, ◌<◌, length}
use Rattle.checkbyte.specs.BitByBit.{check_from, check_by}
use Rattle.checkbyte.proofs.CheckByte.{Bytes}
use Rattle.checkbyte.proofs.wire_check.Given as goal

abbrev pub invariant-loop-left : goal.invariant-loop-left
invariant-loop-left l =
    Bytes l.left × (256 ≤ l.running) × (l.running < 512) × (check_from l.tables (l.running - 256) l.left ≡ check_by l.tables l.raw)

abbrev pub decreases-loop-left : goal.decreases-loop-left
decreases-loop-left l = length l.left
