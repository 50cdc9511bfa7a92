-- What the head check of the code keeps of a frame that was read.
-- Assumes nothing.
use Rattle.std.specs.Prelude.{ℕ, Result, Ok, Err}
use Rattle.refusal.specs.declared.Refusal.{Refusal}
use Rattle.framing.specs.Framing.{FrameRead, framed, wrong}

-- the subcommand alone: what is carried stays where it is in the input
abbrev pub head_of : FrameRead → Result ℕ Refusal
head_of (framed first subcommand carried) = Ok subcommand
head_of (wrong why) = Err why
