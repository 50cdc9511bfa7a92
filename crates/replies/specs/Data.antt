-- The reply's data: a part of the buffer of the attempt asked for. Which part it is stands here once; where it stands in
-- memory and which bytes it shows follow from that.
-- Assumes nothing.
use Rattle.std.specs.Prelude.{◌≡◌, Bool, ◌&&◌, ℕ, ◌+◌, List, eqb, leb, length, get_or, take, drop}
use Rattle.lists.specs.Choice.{pick}
use Rattle.telegram.specs.Telegram.{longest}

-- whether a buffer holds LEN and the data behind it, rule E17
unfoldable pub holds_data : List ℕ → Bool
holds_data buffer =
    leb 1 (length buffer) && (leb (get_or buffer 0 0) longest && leb (1 + get_or buffer 0 0) (length buffer))

-- ---- which part

-- the buffer, by its attempt; the byte in it that the part starts with; how many bytes
pub record Part : Type 0 where
  pub attempt : ℕ
  pub start : ℕ
  pub size : ℕ

-- LEN bytes behind LEN
abbrev pub behind_length : ℕ → List ℕ → Part
behind_length attempt buffer = record { attempt = attempt; start = 1; size = get_or buffer 0 0 }

-- the empty start of the first buffer
abbrev pub empty_start : Part
empty_start = record { attempt = 1; start = 0; size = 0 }

abbrev pub part_in : ℕ → List ℕ → Part
part_in attempt buffer = pick (holds_data buffer) (behind_length attempt buffer) empty_start

-- of the attempt asked for, rule E17
unfoldable pub part_of : List ℕ → List ℕ → ℕ → Part
part_of first second attempt = pick (eqb attempt 1) (part_in 1 first) (pick (eqb attempt 2) (part_in 2 second) empty_start)

-- ---- what it shows, and where it stands

-- of the two, the one that a part is of
abbrev pub of_attempt : {A : Type 0} → Part → A → A → A
of_attempt part first second = pick (eqb part.attempt 2) second first

abbrev pub shown : List ℕ → List ℕ → Part → List ℕ
shown first second part = take part.size (drop part.start (of_attempt part first second))

unfoldable pub reply_data : List ℕ → List ℕ → ℕ → List ℕ
reply_data first second attempt = shown first second (part_of first second attempt)

-- a slice stands at an offset of a block of memory, its part so many bytes further
abbrev pub part_place : ℕ × ℕ → ℕ × ℕ → Part → ℕ × ℕ
part_place first second part = ((of_attempt part first second).0, part.start + (of_attempt part first second).1)

-- what is returned for two buffers that stand at these places: a slice, with its place and its bytes
pub record ShowsData (first second : List ℕ) (first_place second_place : ℕ × ℕ) (attempt : ℕ) (place : ℕ × ℕ) (bytes : List ℕ) : Type 0 where
  pub stands : place ≡ part_place first_place second_place (part_of first second attempt)
  pub holds : bytes ≡ reply_data first second attempt
