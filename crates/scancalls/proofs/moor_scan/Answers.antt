-- `scancalls::moor_scan` meets its contract: what the scan gives, as numbers, with the law on how many were heard.
-- Assumes nothing.
use mathlib.Core.Path.{◌≡◌, ap, ◌∙◌}
use lib.ListN.{length}
use Rattle.scanboundary.specs.ForC.{scanned_for_c, found_by}
use Rattle.scancalls.proofs.Heard.{heard}
use Rattle.devices.specs.WholeScan.{scan_call, serials_heard}
use Rattle.devices.proofs.CallCases.{scans_shown}
use Rattle.table.specs.Table.{columns}
use Rattle.scancalls.proofs.moor_scan.Goals as goal

pub returns : goal.returns
returns c = let args = c.args in
    let given = scan_call args.cap args.found_serials.now args.found_addresses.now (columns args.serials.now args.addresses.now args.marks.now) in
    let scan = c.scan in
    let found : found_by scan.result ≡ length (serials_heard given.turns) = ap found_by scan.ensures.result ∙ heard _ _ _ _ in
    scans_shown scanned_for_c given scan.result _ _ _ _ (c.scanned_for_c.ensures ∙ ap (scanned_for_c scan.result) found) scan.ensures
