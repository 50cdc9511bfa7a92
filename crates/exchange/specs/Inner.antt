-- What only private contracts need: how the structs that the functions hand each other show as the definitions' values. Their
-- bytes are the logical bytes of the run from where a telegram starts.
-- Assumes nothing.
use Rattle.std.specs.Prelude.{◌≡◌, Bool, false, ℕ, List, Result, Ok, Err}
use Rattle.refusal.specs.declared.Refusal.{Refusal}
use Rattle.escapes.specs.Logical.{logicals_at}
use Rattle.attempts.specs.View.{Ready}
use Rattle.attempts.specs.Inner.{Reads}
use Rattle.exchange.specs.declared.tries.Tries.{Tries as TriesStruct}
use Rattle.exchange.specs.declared.tries.Tried.{Tried}
use Rattle.exchange.specs.declared.tries.Tried.TheVariants.{Once, Twice}
use Rattle.exchange.specs.declared.judge.Accepted.{Accepted}
use Rattle.exchange.specs.declared.judge.Replies.{Replies as RepliesStruct}
use Rattle.exchange.specs.Exchange.{Tries, once, twice, neither, Outcome, accepted, rejected}

abbrev pub tries_as : List ℕ → List ℕ → ℕ → Tried → Tries
tries_as first second next Once = once first next
tries_as first second next Twice = twice first second next

abbrev pub tries_of : Result TriesStruct Refusal → List ℕ → ℕ → Tries
tries_of (Ok t) run start = tries_as (logicals_at run t.len1 start) (logicals_at run t.len2 t.second) t.next t.tried
tries_of (Err why) run start = neither why

-- where the bytes of the attempts stand; a second attempt that was taken was read where it is said to start, and without one it has
-- no bytes
pub record TriesStand (command : Bool) (run : List ℕ) (start : ℕ) (t : TriesStruct) : Type 0 where
  pub first : Ready command run start t.len1
  pub second : Ready command run t.second t.len2
  pub second_read : t.tried ≡ Twice → Reads command run t.second (logicals_at run t.len2 t.second)
  pub alone : t.tried ≡ Once → t.len2 ≡ 0

abbrev pub TriesReady : Bool → List ℕ → ℕ → Result TriesStruct Refusal → Type 0
TriesReady command run start (Ok t) = TriesStand command run start t
TriesReady command run start (Err why) = Unit {0}

-- what stands behind a command of these bytes: the exchange's values with the replies' bytes, or its number and place
abbrev pub outcome_as : List ℕ → List ℕ → List ℕ → Result Accepted Refusal → Outcome
outcome_as command first second (Ok a) = accepted a.kind a.command_attempts a.reply_attempts a.read command first second
outcome_as command first second (Err why) = rejected why

abbrev pub replies_of : Result RepliesStruct Refusal → List ℕ → ℕ → List ℕ → Outcome
replies_of (Ok e) run at command = outcome_as command (logicals_at run e.len1 at) (logicals_at run e.len2 e.second) (Ok e.accepted)
replies_of (Err why) run at command = rejected why

-- where the bytes of the replies stand
abbrev pub RepliesReady : List ℕ → ℕ → Result RepliesStruct Refusal → Type 0
RepliesReady run at (Ok e) = Ready false run at e.len1 × Ready false run e.second e.len2
RepliesReady run at (Err why) = Unit {0}
