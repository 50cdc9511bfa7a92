-- Rule N3: what each writer puts at the start of an output with this much room, or why not. A device found may be
-- refused for its serial before the room is looked at; the end only for the room. Before an answer stand the FF of the windows that
-- were dominant.
-- Assumes nothing.
use Rattle.std.specs.Prelude.{ℕ, List, ◌++◌, ltb, drop, replicate}
use Rattle.lists.specs.Choice.{pick}
use Rattle.refusal.specs.Number.{serial_over, at_place}
use Rattle.refusal.specs.Output.{Output, bytes, refused, fitting}
use Rattle.framing.specs.Layout.{serial_limit}
use Rattle.answers.specs.Layout.{found_frame, end_frame}
use Rattle.answers.specs.Reading.{fill}

-- so many FF at the start of an output; all behind them stays
abbrev pub filled : ℕ → List ℕ → List ℕ
filled n old = replicate n fill ++ drop n old

unfoldable pub write_found : ℕ → ℕ → ℕ → Output
write_found serial address room = fitting room (pick (ltb serial serial_limit) (bytes (found_frame serial address)) (refused (at_place serial_over 0)))

unfoldable pub write_end : ℕ → Output
write_end room = fitting room (bytes end_frame)
