-- For the contracts of private functions only: the code's way to say who is still in the contest. They are the keys whose
-- high bits are those that the windows so far gave.
-- Assumes nothing.
use Rattle.std.specs.Prelude.{ℕ, zero, suc, ◌+◌, ◌/◌, ◌^◌, Bool, List, [], ◌∷◌, eqb}
use Rattle.lists.specs.Choice.{pick}
use Rattle.lists.specs.Tests.{keep, position}
use Rattle.arbitration.specs.Contest.{winner, dominant_windows}
use Rattle.arbitration.specs.declared.Decided.{Decided}

-- the key's bits above the windows still to come are this number
abbrev pub starts : ℕ → ℕ → ℕ → Bool
starts windows prefix key = eqb (key / 2 ^ windows) prefix

abbrev pub within : ℕ → ℕ → List ℕ → List ℕ
within windows prefix keys = keep (starts windows prefix) keys

-- where a key that passes a test stands first; the number of keys where none does
unfoldable pub first_with : (ℕ → Bool) → List ℕ → ℕ
first_with test [] = zero
first_with test (key ∷ keys) = pick (test key) zero (suc (first_with test keys))

-- what their contest decides over the windows still to come, where so many were dominant before
unfoldable pub decided_within : ℕ → ℕ → ℕ → List ℕ → Decided
decided_within windows prefix before keys =
    record {
      place = position (winner windows (within windows prefix keys)) keys;
      key = winner windows (within windows prefix keys);
      dominant = before + dominant_windows windows (within windows prefix keys);
    }
