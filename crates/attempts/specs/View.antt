-- How an attempt shows in the answer of `attempt_at`. Its bytes are the logical bytes of the run from where it starts.
-- Assumes nothing.
use Rattle.std.specs.Prelude.{◌≡◌, Bool, true, false, ℕ, ◌-◌, ◌≤◌, List, ◌++◌, length, drop, Result, Ok, Err}
use Rattle.refusal.specs.declared.Refusal.{Refusal}
use Rattle.escapes.specs.Escape.{expanded}
use Rattle.escapes.specs.Logical.{logicals_at}
use Rattle.telegram.specs.Telegram.{room_of}
use Rattle.attempts.specs.declared.Attempt.{Attempt as AttemptStruct}
use Rattle.attempts.specs.declared.Ended.{Ended as EndedStruct}
use Rattle.attempts.specs.Attempt.{Attempt, taken, nacked, failed}

-- an attempt with its bytes that was taken, or else NACKed; the position is that behind the deciding byte, which of a NACKed attempt
-- is the FF
abbrev pub attempt_as : List ℕ → ℕ → Bool → Attempt
attempt_as telegram next true = taken telegram next
attempt_as telegram next false = nacked telegram (next - 1)

-- how it ended, behind which position, in which run and from where
abbrev pub ended_as : Result EndedStruct Refusal → ℕ → List ℕ → ℕ → Attempt
ended_as (Ok ended) next run start = attempt_as (logicals_at run ended.len start) next ended.taken
ended_as (Err why) next run start = failed why

abbrev pub attempt_of : AttemptStruct → List ℕ → ℕ → Attempt
attempt_of a run start = ended_as a.ended a.next run start

-- n logical bytes stand at a position, no more than a command's buffer, or else a reply's, has room for
pub record Ready (command : Bool) (run : List ℕ) (start n : ℕ) : Type 0 where
  pub room : n ≤ room_of command
  pub size : length (logicals_at run n start) ≡ n
  pub rest : List ℕ
  pub wire : drop start run ≡ expanded (logicals_at run n start) ++ rest
