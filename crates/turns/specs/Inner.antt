-- What only the contracts of private functions of the crate above speak of.
-- Assumes nothing.
use Rattle.std.specs.Prelude.{◌≡◌, ◌≤◌, ◌<◌}
use Rattle.table.specs.Table.{Table, serial_limit}
use Rattle.turns.specs.Request.{Turn, windows}
use Rattle.turns.specs.declared.Answer.{Answer}
use Rattle.turns.specs.declared.Answer.TheVariants.{Silence, Found, End}

-- what a function on a lent table gives is that turn: its answer, and the table afterwards
pub record GivesTurn (turn : Turn) (answer : Answer) (t : Table) : Type 0 where
  pub answer_is : answer ≡ turn.answer
  pub table_is : t ≡ turn.table

-- the answer is short enough for the answer buffer, and carries a serial below 2^28
abbrev pub Writable : Answer → Type 0
Writable Silence = Unit {0}
Writable (Found dominant serial address) = (dominant ≤ windows) × (serial < serial_limit)
Writable (End dominant) = dominant ≤ windows
