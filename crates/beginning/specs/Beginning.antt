-- Where the command of a recording starts, rule E21. As long as SRC or DST is not whole, a raw SYN begins the command anew. So a
-- recording begins with any number of pieces, each of which a SYN ends, and the command stands behind them. A first byte that is no
-- initiator's address is refused before the SYN behind it is looked at, and so is in no piece.
-- Assumes nothing.
use Rattle.std.specs.Prelude.{ℕ, zero, suc, ◌+◌, ◌-◌, Bool, ◌&&◌, List, ◌++◌, eqb, length, get_or, drop}
use Rattle.lists.specs.Choice.{pick}
use Rattle.escapes.specs.Escape.{esc, syn}
use Rattle.addresses.specs.Address.{initiator}

-- the four pieces, AA, A9 AA, S AA and S A9 AA, where S is an initiator's address: how many bytes the one has that these three
-- begin with, and 0 where they begin with none
unfoldable pub piece_of : ℕ → ℕ → ℕ → ℕ
piece_of a b c =
    pick (eqb a syn) 1
    (pick (eqb a esc && eqb b syn) 2
    (pick (initiator a && eqb b syn) 2
    (pick (initiator a && (eqb b esc && eqb c syn)) 3 0)))

-- .. that a run begins with. A byte that is not there counts as 00, which ends no piece
abbrev pub piece : List ℕ → ℕ
piece run = piece_of (get_or run 0 0) (get_or run 1 0) (get_or run 2 0)

-- these bytes, of which there is at least one, are a piece and nothing more
abbrev pub is_piece : List ℕ → Bool
is_piece bytes = eqb (piece bytes) (length bytes)

-- how many bytes stand before the command, in at most so many pieces
unfoldable pub behind_pieces : ℕ → List ℕ → ℕ
behind_pieces zero run = 0
behind_pieces (suc n) run = pick (eqb (piece run) 0) 0 (piece run + behind_pieces n (drop (piece run) run))

-- a run has no more pieces than bytes
abbrev pub command_start : List ℕ → ℕ
command_start run = behind_pieces (length run) run

-- how many bytes of a run are passed over with these in hand before it: those that end the piece in hand, and then the run's own
-- beginning; none where no piece in hand is ended by the run
unfoldable pub passed_over : List ℕ → List ℕ → ℕ
passed_over hand run =
    let n = piece (hand ++ run) - length hand in
    pick (eqb n 0) 0 (n + command_start (drop n run))
