-- The bytes of a request: rule F3.
-- Assumes nothing.
use Rattle.std.specs.Prelude.{ℕ, List, []}
use Rattle.framing.specs.Framing.{Framing, frame}
use Rattle.framing.specs.Layout.{scan_first, start_scan, continue_scan, scan_framing}
use Rattle.requests.specs.declared.Request.{Request}
use Rattle.requests.specs.declared.Request.TheVariants.{Start, Continue}

abbrev pub request_framing : Framing
request_framing = scan_framing start_scan continue_scan

abbrev pub subcommand_of : Request → ℕ
subcommand_of Start = start_scan
subcommand_of Continue = continue_scan

-- it carries nothing
unfoldable pub request_frame : Request → List ℕ
request_frame request = frame request_framing scan_first (subcommand_of request) []
