-- The answer reader, rules F4 and F5: what is passed over before the frame, and what the frame at that position of the whole input
-- says, are a definition each.
-- Assumes nothing.
use Rattle.std.specs.Prelude.{ℕ, ◌+◌, ◌*◌, List, [], ◌∷◌, leb, ltb, eqb, get_or, Result, Ok, Err}
use Rattle.std.specs.List.{prefix_len}
use Rattle.lists.specs.Choice.{pick}
use Rattle.refusal.specs.Number.{serial_over, fill_over, at_place}
use Rattle.refusal.specs.Numbers.{Numbers, accepted_with, refused_with}
use Rattle.refusal.specs.declared.Refusal.{Refusal}
use Rattle.framing.specs.Framing.{FrameRead, framed, wrong, framed_at}
use Rattle.framing.specs.Layout.{device_found, end_of_scan, serial_limit}
use Rattle.answers.specs.Layout.{answer_framing}
use Rattle.answers.specs.declared.AnswerRead.{AnswerRead}
use Rattle.answers.specs.declared.AnswerRead.TheVariants.{Found, End}

-- what the reader finds, as numbers: the subcommand of the answer, how many FF were passed over, and of a device found its serial
-- and its address
abbrev pub answer_numbers : Result AnswerRead Refusal → Numbers
answer_numbers (Ok (Found skipped serial address)) = accepted_with (device_found ∷ skipped ∷ serial ∷ address ∷ [])
answer_numbers (Ok (End skipped)) = accepted_with (end_of_scan ∷ skipped ∷ [])
answer_numbers (Err why) = refused_with why

-- ---- the FF before an answer

-- the byte of a dominant window
abbrev pub fill : ℕ
fill = 0xFF

-- how many FF an input begins with
unfoldable pub leading_fill : List ℕ → ℕ
leading_fill input = prefix_len (λ b. eqb b fill) input

-- no contest of devices has more dominant windows
abbrev pub most_fill : ℕ
most_fill = 32

-- rule F5: what a reader passes over before a frame: the FF that its input begins with, unless there is a 33rd, which is refused
-- at its place, before anything else is asked of the input
unfoldable pub before_frame : List ℕ → Result ℕ Refusal
before_frame input = pick (leb (leading_fill input) most_fill) (Ok (leading_fill input)) (Err (at_place fill_over most_fill))

-- .. and what is read behind it: the frame at that position, or the refusal
abbrev pub behind_fill : {A : Type 0} → (ℕ → Result A Refusal) → Result ℕ Refusal → Result A Refusal
behind_fill frame_at (Ok n) = frame_at n
behind_fill frame_at (Err why) = Err why

-- ---- the frame at a position

-- four bytes, high first
unfoldable pub serial_of : List ℕ → ℕ
serial_of carried = ((get_or carried 0 0 * 256 + get_or carried 1 0) * 256 + get_or carried 2 0) * 256 + get_or carried 3 0

-- rule F4: the address as it was sent, whatever byte it is
abbrev pub address_of : List ℕ → ℕ
address_of carried = get_or carried 4 0

-- rule F4: what a device found at this position carries; 17, at the serial's first byte, is the last refusal of all. All bytes
-- before the frame were passed over.
abbrev pub found : ℕ → List ℕ → Result AnswerRead Refusal
found at carried =
    pick (ltb (serial_of carried) serial_limit) (Ok (Found at (serial_of carried) (address_of carried)))
    (Err (at_place serial_over (at + 3)))

abbrev pub answered_by : ℕ → FrameRead → Result AnswerRead Refusal
answered_by at (framed first subcommand carried) = pick (eqb subcommand device_found) (found at carried) (Ok (End at))
answered_by at (wrong why) = Err why

unfoldable pub answer_at : List ℕ → ℕ → Result AnswerRead Refusal
answer_at input at = answered_by at (framed_at answer_framing input at)

unfoldable pub read_answer : List ℕ → Result AnswerRead Refusal
read_answer input = behind_fill (answer_at input) (before_frame input)
