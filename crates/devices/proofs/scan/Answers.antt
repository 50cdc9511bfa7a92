-- `devices::scan` meets its contract: behind the guard the table is valid, and each list has room. Assumes nothing.
use mathlib.Core.Path.{sym, ap₂, ◌∙◌}
use Prim.Native.Nat.{min}
use native.Mathlib.Omega.{arith}
use lib.ListN.{length}
use Rattle.table.specs.Table.{columns, devices, valid}
use Rattle.guard.specs.Guard.{guard}
use Rattle.guard.proofs.GuardCases.{guard_room, guard_valid}
use Rattle.devices.proofs.scan.Goals as goal

pub run-scanned-requires : goal.run-scanned-requires
run-scanned-requires c = let t = columns c.args.serials.now c.args.addresses.now c.args.marks.now in
    let room = min (length c.args.found_serials.now) (length c.args.found_addresses.now) in
    let passed = ap₂ (guard (devices t)) (sym c.smaller-room.ensures) (sym c.valid-ok.ensures) ∙ sym c.in_ok-admit.ensures in
    let enough = guard_room (devices t) room (valid t) passed in
    (guard_valid (devices t) room (valid t) passed, omega (arith, enough), omega (arith, enough))
