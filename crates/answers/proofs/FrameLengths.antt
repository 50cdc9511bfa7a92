-- How long each frame is, and that a writer with that much room writes it: for whoever puts a frame behind other bytes.
-- Assumes nothing.
use mathlib.Core.Path.{◌≡◌, refl}
use Prim.Native.Nat.{ℕ, ◌≤◌, ◌<◌}
use lib.ListN.{length}
use borrow.Author.Tests.{le-leb, lt-ltb}
use Rattle.refusal.specs.Output.{bytes}
use Rattle.framing.specs.Framing.{frame}
use Rattle.framing.specs.Layout.{serial_limit, shortest, found_length, check_bytes}
use Rattle.answers.specs.Layout.{serial_bytes, found_bytes, found_frame, end_frame}
use Rattle.answers.specs.Writing.{write_found, write_end}

pub length_found : (serial address : ℕ) → length (found_frame serial address) ≡ found_length
unfolding frame check_bytes serial_bytes found_bytes found_frame
length_found serial address = refl

pub length_end : length end_frame ≡ shortest
unfolding frame check_bytes end_frame
length_end = refl

pub found_written : (serial address room : ℕ) → serial < serial_limit → found_length ≤ room
    → write_found serial address room ≡ bytes (found_frame serial address)
unfolding write_found
found_written serial address room below enough =
    simp (lt-ltb serial serial_limit below, length_found serial address, le-leb found_length room enough)

pub end_written : (room : ℕ) → shortest ≤ room → write_end room ≡ bytes end_frame
unfolding write_end
end_written room enough = simp (length_end, le-leb shortest room enough)
