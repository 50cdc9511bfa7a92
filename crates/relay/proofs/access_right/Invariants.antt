-- `relay::access_right` meets its contract: the bytes so far are judged. Assumes nothing.
use mathlib.Core.Path.{◌≡◌}
use lib.ListN.{take}
use Rattle.std.specs.List.{list_all}
use Rattle.relay.specs.Device.{access_right}
use Rattle.relay.proofs.access_right.Given as goal

abbrev pub invariant-loop-byte : goal.invariant-loop-byte
invariant-loop-byte l = l.right ≡ list_all access_right (take l.byte-index l.access)
