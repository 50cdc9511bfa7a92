-- `devices::trace::run` meets its contract. The loop's invariant: what the scan comes to from here on is what it comes to from
-- its first request on. Assumes nothing.
use Rattle.devices.proofs.ScanUnderWay.{Going}
use Rattle.devices.proofs.trace.run.Given as goal

abbrev pub invariant-loop-sent : goal.invariant-loop-sent
invariant-loop-sent l = Going l.cap l.serials l.addresses l.initial.marks l.initial.found_serials l.initial.found_addresses l.marks l.found_serials l.found_addresses l.sent l.skipped
