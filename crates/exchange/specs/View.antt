-- How the judge's answer shows as the values that the definitions speak of, and what it does to its buffers.
-- Assumes nothing.
use Rattle.std.specs.Prelude.{◌≡◌, ℕ, List, [], ◌∷◌, Result, Ok, Err}
use Rattle.lists.specs.Starting.{starting}
use Rattle.refusal.specs.Numbers.{Numbers, accepted_with, refused_with}
use Rattle.refusal.specs.declared.Refusal.{Refusal}
use Rattle.addresses.specs.Address.{kind_number}
use Rattle.addresses.specs.declared.ExchangeKind.{ExchangeKind}
use Rattle.exchange.specs.declared.judge.Accepted.{Accepted}
use Rattle.exchange.specs.Exchange.{Outcome, accepted, rejected}

-- rule E16: the judge's answer as numbers: the kind, the attempts at command and reply, and the raw bytes read
abbrev pub judged_numbers : Result Accepted Refusal → Numbers
judged_numbers (Ok a) = accepted_with (kind_number a.kind ∷ a.command_attempts ∷ a.reply_attempts ∷ a.read ∷ [])
judged_numbers (Err why) = refused_with why

-- an accepted exchange by its values
abbrev pub accepted_as : ExchangeKind → ℕ → ℕ → ℕ → Accepted
accepted_as kind commands replies read = record { kind = kind; command_attempts = commands; reply_attempts = replies; read = read }

-- the answer for an outcome, and what the three buffers start with
abbrev pub answered : Outcome → Result Accepted Refusal
answered (accepted kind commands replies next command first second) = Ok (accepted_as kind commands replies next)
answered (rejected why) = Err why

abbrev pub command_of : Outcome → List ℕ
command_of (accepted kind commands replies next command first second) = command
command_of (rejected why) = []

abbrev pub first_of : Outcome → List ℕ
first_of (accepted kind commands replies next command first second) = first
first_of (rejected why) = []

abbrev pub second_of : Outcome → List ℕ
second_of (accepted kind commands replies next command first second) = second
second_of (rejected why) = []

-- what judging did: its result r, which shows the answer (as itself, or as a caller of another language takes it), and the
-- three buffers from what they held to what they hold. Each starts with its bytes and keeps all others; a
-- refusal, and an attempt that did not happen, leave a buffer as it was
pub record Judges {A : Type 0} (shows : Result Accepted Refusal → A) (o : Outcome) (r : A) (command command' first first' second second' : List ℕ) : Type 0 where
  pub result : r ≡ shows (answered o)
  pub command_buffer : command' ≡ starting (command_of o) command
  pub first_buffer : first' ≡ starting (first_of o) first
  pub second_buffer : second' ≡ starting (second_of o) second
