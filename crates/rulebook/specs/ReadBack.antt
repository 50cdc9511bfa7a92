-- What the writers make, and what may come before it in an exchange: of these Demand2.antt speaks.
-- Assumes nothing.
use Rattle.std.specs.Prelude.{Bool, List, [], ◌∷◌, ◌++◌, ℕ, length}
use Rattle.escapes.specs.Escape.{expanded}
use Rattle.sending.specs.Sending.{closed}
use Rattle.attempts.specs.Attempt.{nack}
use Rattle.rulebook.specs.Rules.{Form, ToOne}

-- the telegrams that the writers make
abbrev pub command_bytes : ℕ → ℕ → ℕ → ℕ → List ℕ → List ℕ
command_bytes source destination primary secondary payload = closed (source ∷ destination ∷ primary ∷ secondary ∷ length payload ∷ payload)

abbrev pub reply_bytes : List ℕ → List ℕ
reply_bytes payload = closed (length payload ∷ payload)

-- a NACKed first attempt, or none: any well-formed telegram that is acknowledged at all, its check byte right or wrong
pub data Before (command : Bool) : Type 0 where
  nothing : Before command
  nacked_once : (first : List ℕ) → Form command first → ToOne command first → Before command

abbrev pub raw_before : {command : Bool} → Before command → List ℕ → List ℕ
raw_before nothing raw = raw
raw_before (nacked_once first form due) raw = (expanded first ++ nack ∷ []) ++ raw

abbrev pub attempts_of : {command : Bool} → Before command → ℕ
attempts_of nothing = 1
attempts_of (nacked_once first form due) = 2

-- the first attempt, and the second where there was one
abbrev pub first_tried : {command : Bool} → Before command → List ℕ → List ℕ
first_tried nothing telegram = telegram
first_tried (nacked_once first form due) telegram = first

abbrev pub second_tried : {command : Bool} → Before command → List ℕ → List ℕ
second_tried nothing telegram = []
second_tried (nacked_once first form due) telegram = telegram
