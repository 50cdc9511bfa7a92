-- The bytes of each answer: rule F4.
-- Assumes nothing.
use Rattle.std.specs.Prelude.{ℕ, ◌/◌, ◌%◌, List, [], ◌∷◌, ◌++◌}
use Rattle.framing.specs.Framing.{Framing, frame}
use Rattle.framing.specs.Layout.{scan_first, device_found, end_of_scan, scan_framing}

abbrev pub answer_framing : Framing
answer_framing = scan_framing device_found end_of_scan

-- rule F4: a serial, high byte first
unfoldable pub serial_bytes : ℕ → List ℕ
serial_bytes serial = serial / 0x1000000 ∷ serial / 0x10000 % 256 ∷ serial / 0x100 % 256 ∷ serial % 256 ∷ []

-- what a device found carries; an end carries nothing
unfoldable pub found_bytes : ℕ → ℕ → List ℕ
found_bytes serial address = serial_bytes serial ++ address ∷ []

unfoldable pub found_frame : ℕ → ℕ → List ℕ
found_frame serial address = frame answer_framing scan_first device_found (found_bytes serial address)

unfoldable pub end_frame : List ℕ
end_frame = frame answer_framing scan_first end_of_scan []
