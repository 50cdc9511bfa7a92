-- The answer as bytes: FF, then a frame at the place behind them, in a buffer with room for both.
-- Assumes nothing.
use mathlib.Core.Path.{◌≡◌, refl}
use mathlib.Core.List.{List, ◌++◌}
use Prim.Native.Nat.{ℕ, ◌+◌, ◌-◌, ◌≤◌, min}
use native.Mathlib.Omega.{arith}
use borrow.Rule.Slice.PartMut.{put_mid, mid_of}
use lib.ListN.{length, replicate}
use Rattle.lists.specs.Starting.{starting}
use Rattle.framing.specs.Layout.{shortest, found_length}
use Rattle.answers.specs.Layout.{found_frame, end_frame}
use Rattle.answers.specs.Reading.{fill}
use Rattle.answers.specs.Writing.{filled}
use Rattle.answers.proofs.FrameLengths.{length_found, length_end}
use Rattle.answers.proofs.BehindFill.{behind_fill_lem, behind_fill_length}
use Rattle.turns.specs.Request.{windows}
use Rattle.devices.specs.Calls.{answer_room, answer_bytes}
use Rattle.turns.specs.declared.Answer.TheVariants.{Silence, Found, End}

-- with 42 bytes of buffer and at most 32 FF there is room for either frame behind them
pub answer_put : (old now after frame : List ℕ) (d : ℕ) → answer_room ≤ length old → d ≤ windows → length now ≡ length old
    → now ≡ filled (min d (length old)) old
    → (found_length ≤ length (mid_of d (length now - d) now) → after ≡ starting frame (mid_of d (length now - d) now))
    → put_mid d (length now - d) now after ≡ starting (replicate d fill ++ frame) old
answer_put old now after frame d room few long first wrote = behind_fill_lem found_length old now after frame d (omega arith) long first wrote

-- how long the answers are
pub found_bytes_length : (d serial address : ℕ) → length (answer_bytes (Found d serial address)) ≡ d + found_length
unfolding answer_bytes
found_bytes_length d serial address = omega (arith, behind_fill_length d (found_frame serial address), length_found serial address)

pub end_bytes_length : (d : ℕ) → length (answer_bytes (End d)) ≡ d + shortest
unfolding answer_bytes
end_bytes_length d = omega (arith, behind_fill_length d end_frame, length_end)

pub silence_bytes : (old : List ℕ) → starting (answer_bytes Silence) old ≡ old
unfolding answer_bytes
silence_bytes old = refl
