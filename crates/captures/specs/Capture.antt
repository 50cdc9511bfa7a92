-- Captures, rule E22: in which bytes of a capture its next exchange stands. Each SYN ends a piece of idle time, as rule E21 has it, or
-- the stretch of an exchange.
-- Assumes nothing.
use Rattle.std.specs.Prelude.{ℕ, ◌+◌, min, List, [], ◌∷◌, eqb, length, drop}
use Rattle.lists.specs.Choice.{pick}
use Rattle.escapes.specs.Escape.{syn}
use Rattle.beginning.specs.Beginning.{command_start}
use Rattle.captures.specs.declared.Stretch.{Stretch}

-- how many bytes there are through the first SYN, and where there is none, all
unfoldable pub through_syn : List ℕ → ℕ
through_syn [] = 0
through_syn (b ∷ bs) = pick (eqb b syn) 1 (1 + through_syn bs)

-- the stretch of the next exchange from here on: idle time is passed over, and then it is the bytes through the next SYN
abbrev pub stretch_from : List ℕ → ℕ → Stretch
stretch_from capture from =
    let start = from + command_start (drop from capture) in
    record { start = start; end = start + through_syn (drop start capture) }

-- .. and behind the capture's end there is none
unfoldable pub next_exchange : List ℕ → ℕ → Stretch
next_exchange capture at = stretch_from capture (min at (length capture))
