-- Rules F1 and R3. A framed message and its reader, with what differs from one kind of frame to another as parameters: a few first bytes,
-- a subcommand, what it carries, and two check bytes. It knows no subcommand and no check of its own.
-- Assumes nothing.
use Rattle.std.specs.Prelude.{ℕ, zero, suc, ◌+◌, ◌-◌, Bool, not, List, [], ◌∷◌, ◌++◌, ltb, length, get_or, take, drop}
use Rattle.lists.specs.Choice.{pick}
use Rattle.refusal.specs.Number.{frame_length, frame_head, subcommand_wrong, frame_check, at_place}
use Rattle.refusal.specs.declared.Refusal.{Refusal}

pub record Framing : Type 0 where
  -- a test for each of the first bytes; the subcommand stands behind them
  pub marks : List (ℕ → Bool)
  -- whether a frame with this first byte may have this subcommand
  pub takes : ℕ → ℕ → Bool
  -- whether a frame of this subcommand may carry these bytes
  pub fits : ℕ → List ℕ → Bool
  -- fewer bytes than these are not looked at
  pub shortest : ℕ
  -- the two check bytes that are put behind a body, and whether two that stand behind it pass
  pub check : List ℕ → List ℕ
  pub passes : List ℕ → List ℕ → Bool

-- ---- writing

-- first bytes, subcommand and what is carried: all that the check is taken over
abbrev pub body : List ℕ → ℕ → List ℕ → List ℕ
body first subcommand carried = first ++ subcommand ∷ carried

unfoldable pub frame : Framing → List ℕ → ℕ → List ℕ → List ℕ
frame F first subcommand carried = body first subcommand carried ++ F.check (body first subcommand carried)

-- ---- reading

-- the parts of a frame, or the refusal
pub data FrameRead : Type 0 where
  framed : List ℕ → ℕ → List ℕ → FrameRead
  wrong : Refusal → FrameRead

-- how many bytes pass their tests before the first that fails
unfoldable pub passed : List (ℕ → Bool) → List ℕ → ℕ
passed [] bytes = zero
passed (mark ∷ marks) [] = zero
passed (mark ∷ marks) (b ∷ bs) = pick (mark b) (suc (passed marks bs)) zero

-- the last two bytes of a frame are its check, and all before them its body
abbrev pub check_length : ℕ
check_length = 2

abbrev pub body_of : List ℕ → List ℕ
body_of bytes = take (length bytes - check_length) bytes

abbrev pub check_of : List ℕ → List ℕ
check_of bytes = drop (length bytes - check_length) bytes

-- the parts of a body
abbrev pub first_in : Framing → List ℕ → List ℕ
first_in F bytes = take (length F.marks) bytes

abbrev pub subcommand_in : Framing → List ℕ → ℕ
subcommand_in F bytes = get_or bytes (length F.marks) 0

abbrev pub carried_in : Framing → List ℕ → List ℕ
carried_in F bytes = drop (length F.marks + 1) bytes

-- rule N2: a body and its check at this position, in the order of the refusals: 14, 15, 13 for what is carried, 16
unfoldable pub judged : Framing → ℕ → List ℕ → List ℕ → FrameRead
judged F at bytes check =
    pick (ltb (passed F.marks bytes) (length F.marks)) (wrong (at_place frame_head (at + passed F.marks bytes)))
    (pick (not (F.takes (get_or bytes 0 0) (subcommand_in F bytes))) (wrong (at_place subcommand_wrong (at + length F.marks)))
    (pick (not (F.fits (subcommand_in F bytes) (carried_in F bytes))) (wrong (at_place frame_length 0))
    (pick (not (F.passes bytes check)) (wrong (at_place frame_check (at + length bytes)))
    (framed (first_in F bytes) (subcommand_in F bytes) (carried_in F bytes)))))

-- a frame that fills the rest of the input from this position on; before all else, 13 for a rest that is too short
unfoldable pub framed_at : Framing → List ℕ → ℕ → FrameRead
framed_at F input at =
    pick (ltb (length (drop at input)) F.shortest) (wrong (at_place frame_length 0))
    (judged F at (body_of (drop at input)) (check_of (drop at input)))
