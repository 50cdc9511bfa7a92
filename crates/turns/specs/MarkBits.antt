-- Rule D2's mark bits do not matter but for the number of FF: with any two numbers of four bits for an unscanned and a scanned
-- device, the first below the second, the same device wins. So the serial and the address that are answered, and the table
-- afterwards, are the same. Proved in proofs/AnyMarkBits.antt.
-- Assumes nothing.
use Rattle.std.specs.Prelude.{◌≡◌, true, ℕ, ◌<◌}
use Rattle.arbitration.specs.Contest.{decided}
use Rattle.table.specs.Table.{Table, valid}
use Rattle.turns.specs.Request.{key_with, for_each, windows, contest}

abbrev pub AnyMarkBits : Type 0
AnyMarkBits =
    (unscanned scanned : ℕ) → unscanned < scanned → scanned < 16 → (t : Table) → valid t ≡ true
    → (decided windows (for_each (key_with unscanned scanned) t.serials t.marks)).place ≡ (contest t).place
