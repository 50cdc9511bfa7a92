-- The W rows of answers in docs/RULES.md, and the edge of what is passed over, of the definitions.
-- Assumes nothing.
use Rattle.std.specs.Prelude.{Ok, Err}
use mathlib.Core.Path.{◌≡◌, refl}
use mathlib.Core.List.{List, [], ◌∷◌}
use Prim.Native.Nat.{ℕ}
use lib.ListN.{replicate}
use Rattle.lists.specs.Tests.{same}
use Rattle.refusal.specs.Number.{frame_length, fill_over, at_place}
use Rattle.crc.specs.Register.{step, steps}
use Rattle.crc.specs.Check.{modbus_bytes, modbus_check}
use Rattle.framing.specs.Framing.{frame, passed, judged, framed_at}
use Rattle.framing.specs.Layout.{check_bytes}
use Rattle.answers.specs.Layout.{serial_bytes, found_bytes, found_frame, end_frame}
use Rattle.answers.specs.Reading.{fill, serial_of, answer_at, leading_fill, before_frame, read_answer}
use Rattle.answers.specs.declared.AnswerRead.TheVariants.{Found, End}

-- W10: the end of a scan
abbrev w10_end : List ℕ
w10_end = 0xFD ∷ 0x46 ∷ 0x04 ∷ 0xD3 ∷ 0x93 ∷ []

pub w10 : (end_frame ≡ w10_end) × (read_answer w10_end ≡ Ok (End 0))
unfolding step steps modbus_bytes modbus_check check_bytes frame end_frame passed same judged framed_at serial_of answer_at leading_fill before_frame read_answer
w10 = (refl, refl)

-- W11: a device found
abbrev w11_found : List ℕ
w11_found = 0xFD ∷ 0x46 ∷ 0x03 ∷ 0x00 ∷ 0x01 ∷ 0xEB ∷ 0x37 ∷ 0x0C ∷ 0xCE ∷ 0xDC ∷ []

pub w11 : (found_frame 0x0001EB37 0x0C ≡ w11_found) × (read_answer w11_found ≡ Ok (Found 0 0x0001EB37 0x0C))
unfolding step steps modbus_bytes modbus_check check_bytes frame serial_bytes found_bytes found_frame passed same judged framed_at serial_of answer_at leading_fill before_frame read_answer
w11 = (refl, refl)

-- rule F5: 32 FF and nothing else are passed over, and no frame is left; one more is refused before anything is asked of a frame
pub only_fill : (read_answer (replicate 32 fill) ≡ Err (at_place frame_length 0)) × (read_answer (replicate 33 fill) ≡ Err (at_place fill_over 32))
unfolding passed judged framed_at answer_at leading_fill before_frame read_answer
only_fill = (refl, refl)
