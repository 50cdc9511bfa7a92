-- A device's rank: how many serials are smaller. The k-th smallest serial is the one of rank k - 1. Used by rule D9.
-- Assumes nothing.
use Rattle.std.specs.Prelude.{ℕ, ltb, get_or}
use Rattle.lists.specs.Tests.{how_many}
use Rattle.table.specs.Table.{Table}

-- how many serials of the table are smaller than the one at this place
unfoldable pub rank : Table → ℕ → ℕ
rank t place = how_many (λ serial. ltb serial (get_or t.serials place 0)) t.serials
