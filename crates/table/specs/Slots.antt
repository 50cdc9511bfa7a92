-- For the contracts of private functions only: the slot by which a serial is told from others.
-- Assumes nothing.
use Rattle.std.specs.Prelude.{ℕ, ◌%◌}

abbrev pub slot_of : ℕ → ℕ
slot_of serial = serial % 2048
