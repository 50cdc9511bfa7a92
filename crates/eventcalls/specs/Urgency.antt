-- What only the call for C has: whether an event is urgent, by a number. All else that the calls promise is the promise of the
-- call below, shown as numbers.
-- Assumes nothing.
use Rattle.std.specs.Prelude.{ℕ, Bool, not, eqb}

-- 0 is normal, anything else is urgent
abbrev pub urgent_by : ℕ → Bool
urgent_by urgent = not (eqb urgent 0)
