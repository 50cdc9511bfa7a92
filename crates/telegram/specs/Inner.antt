-- What only private contracts need.
-- Assumes nothing.
use Rattle.std.specs.Prelude.{Result, Ok, Err}
use Prim.Native.Nat.{ℕ}
use Rattle.refusal.specs.Number.{at_place}
use Rattle.refusal.specs.declared.Refusal.{Refusal}
use Rattle.telegram.specs.declared.Field.{Field as FieldEnum}
use Rattle.telegram.specs.declared.Field.TheVariants.{Source, Destination, Length, Other}
use Rattle.telegram.specs.Telegram.{Field, SRC, DST, LEN, unjudged}

abbrev pub field_of : FieldEnum → Field
field_of Source = SRC
field_of Destination = DST
field_of Length = LEN
field_of Other = unjudged

-- why there is no logical byte; of a byte, nothing
abbrev pub why_of : Result (ℕ × ℕ) Refusal → Refusal
why_of (Ok (b, next)) = at_place 0 0
why_of (Err why) = why
