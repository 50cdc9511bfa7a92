-- What the contest of rule D3 comes to: the smallest key wins. Proved once over the number of windows (proofs/SmallestWins.antt).
-- Assumes nothing.
use Rattle.std.specs.Prelude.{◌≡◌, ℕ, zero, suc, ◌+◌, ◌≤◌, ◌<◌, ◌^◌, List, eqb, length, get_or}
use Rattle.lists.specs.Choice.{pick}
use Rattle.lists.specs.Tests.{keep, position}
use Rattle.arbitration.specs.Contest.{zero_in, remaining, contending, decided}

-- one of the keys, and at most each of them
pub record Smallest (key : ℕ) (keys : List ℕ) : Type 0 where
  pub place : ℕ
  pub inside : place < length keys
  pub there : get_or keys place 0 ≡ key
  pub least : (i : ℕ) → i < length keys → key ≤ get_or keys i 0

-- how many of the key's lowest bits, as many as there are windows, are 0
unfoldable pub zero_bits : ℕ → ℕ → ℕ
zero_bits zero key = 0
zero_bits (suc window) key = pick (zero_in window key) 1 0 + zero_bits window key

-- the key wins: those that remain are exactly the ones equal to it, its first place is the winner's, and the dominant
-- windows are its zero bits
pub record Won (windows : ℕ) (keys : List ℕ) (key : ℕ) : Type 0 where
  pub those : remaining windows (contending windows keys) ≡ keep (eqb key) keys
  pub decides : decided windows keys ≡ record { place = position key keys; key = key; dominant = zero_bits windows key }
  pub inside : position key keys < length keys
  pub there : get_or keys (position key keys) 0 ≡ key

-- the smallest key wins where it fits the windows. Then it is also the smallest of those that contend, since all that do
-- not are larger.
abbrev pub ContestLaw : Type 0
ContestLaw = (windows : ℕ) (keys : List ℕ) (key : ℕ) → Smallest key keys → key < 2 ^ windows → Won windows keys key

-- .. and where no key fits, as where there is none, nobody wins
abbrev pub NobodyLaw : Type 0
NobodyLaw =
    (windows : ℕ) (keys : List ℕ) → ((i : ℕ) → i < length keys → 2 ^ windows ≤ get_or keys i 0)
    → decided windows keys ≡ record { place = length keys; key = 0; dominant = 0 }
