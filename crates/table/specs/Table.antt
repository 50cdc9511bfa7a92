-- Rule D1: the device table, as a value of which three columns are one view, and when it is valid.
-- Assumes nothing.
use Rattle.std.specs.Prelude.{ℕ, Bool, ◌&&◌, List, leb, ltb, eqb, length}
use Rattle.lists.specs.Tests.{all, different}
pub use Rattle.framing.specs.Layout.{serial_limit}

-- of each device its serial, its address, and its mark, which says whether it was scanned
pub record Table : Type 0 where
  pub serials : List ℕ
  pub addresses : List ℕ
  pub marks : List ℕ

-- the table that three columns hold
abbrev pub columns : List ℕ → List ℕ → List ℕ → Table
columns serials addresses marks = record { serials = serials; addresses = addresses; marks = marks }

-- how many devices there are
abbrev pub devices : Table → ℕ
devices t = length t.serials

-- the same devices with other marks
abbrev pub marked : Table → List ℕ → Table
marked t marks = record { serials = t.serials; addresses = t.addresses; marks = marks }

-- a table has no more devices than this
abbrev pub most_devices : ℕ
most_devices = 247

abbrev pub serial_right : ℕ → Bool
serial_right serial = ltb serial serial_limit

abbrev pub mark_right : ℕ → Bool
mark_right mark = ltb mark 2

-- rule D1: columns of one length, not too many devices, serials that are right and differ, and right marks; of addresses
-- nothing is asked
unfoldable pub valid : Table → Bool
valid t =
    eqb (length t.addresses) (devices t)
    && (eqb (length t.marks) (devices t)
    && (leb (devices t) most_devices
    && (all serial_right t.serials
    && (different t.serials
    && all mark_right t.marks))))
