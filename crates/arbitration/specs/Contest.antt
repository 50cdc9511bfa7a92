-- Rule D3: the contest of any list of keys over any number of windows.
-- Assumes nothing.
use Rattle.std.specs.Prelude.{ℕ, zero, suc, ◌+◌, ◌/◌, ◌%◌, ◌^◌, Bool, List, eqb, ltb, get_or}
use Rattle.lists.specs.Choice.{pick}
use Rattle.lists.specs.Tests.{any, keep, position}
use Rattle.arbitration.specs.declared.Decided.{Decided}

-- the key has a 0 in a window. Windows are counted by how many are still to come: 0 is the last, the lowest bit.
abbrev pub zero_in : ℕ → ℕ → Bool
zero_in window key = eqb (key / 2 ^ window % 2) 0

-- rule D3: a window is dominant when somebody still in the contest has a 0 there
abbrev pub dominant : ℕ → List ℕ → Bool
dominant window keys = any (zero_in window) keys

-- who is left after a window: where it is dominant, only those with a 0
abbrev pub after : ℕ → List ℕ → List ℕ
after window keys = pick (dominant window keys) (keep (zero_in window) keys) keys

-- rule D3: who remains when no window is left; until then it is the contest of those remaining over one window less
unfoldable pub remaining : ℕ → List ℕ → List ℕ
remaining zero keys = keys
remaining (suc window) keys = remaining window (after window keys)

-- .. and how many windows were dominant, each of which puts one FF on the bus
unfoldable pub dominant_windows : ℕ → List ℕ → ℕ
dominant_windows zero keys = 0
dominant_windows (suc window) keys = pick (dominant window keys) 1 0 + dominant_windows window (after window keys)

-- the key that remains; 0 where nobody contends
unfoldable pub winner : ℕ → List ℕ → ℕ
winner windows keys = get_or (remaining windows keys) 0 0

-- who contends: each key that has no more bits than there are windows. A device sits out with any other key.
abbrev pub fits : ℕ → ℕ → Bool
fits windows key = ltb key (2 ^ windows)

abbrev pub contending : ℕ → List ℕ → List ℕ
contending windows keys = keep (fits windows) keys

-- what the contest decides: where in the whole list the winner's key stands first, that key, and how many windows were
-- dominant. A key of 0 always contends, so where nobody does the winner's key, 0, stands nowhere: the place is the
-- length of the list.
unfoldable pub decided : ℕ → List ℕ → Decided
decided windows keys =
    record {
      place = position (winner windows (contending windows keys)) keys;
      key = winner windows (contending windows keys);
      dominant = dominant_windows windows (contending windows keys);
    }
