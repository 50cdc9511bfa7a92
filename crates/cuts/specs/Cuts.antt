-- Rules E19 and E20 over any cuts: a recording that is fed run after run, whatever the runs' lengths, is answered as the judge
-- answers it at once.
-- Assumes nothing.
use Rattle.std.specs.Prelude.{ℕ, ◌≤◌, ◌<◌, ◌≡◌, true, false, List, [], ◌∷◌, ◌++◌, length, take}
use Rattle.lists.specs.Choice.{pick}
use Rattle.refusal.specs.Number.{run_ended, at_place}
use Rattle.exchange.specs.Exchange.{limit, Outcome, rejected, exchange, rooms, judged}
use Rattle.listening.specs.declared.Listening.{Listening}
use Rattle.listening.specs.declared.Fed.{Fed}
use Rattle.listening.specs.Listening.{fresh, has_answered, after, fed, closing, closing_state}

-- ---- any sequence of runs

-- the recording that the runs make up
unfoldable pub joined : List (List ℕ) → List ℕ
joined [] = []
joined (run ∷ runs) = run ++ joined runs

-- a state that is fed them one after the other, and how many bytes it used in all
unfoldable pub fed_all : Listening → List (List ℕ) → Fed
fed_all s [] = record { state = s; used = 0 }
fed_all s (run ∷ runs) = after (fed s run).used (fed_all (fed s run).state runs)

-- ---- what is promised

-- the run is over where a byte was due, and nothing else is known of the exchange
abbrev pub Open : Outcome → Type 0
Open o = (place : ℕ) × (o ≡ rejected (at_place run_ended place))

-- n bytes of a recording are those through the one that decides it, or all that are read: before, number 3 is all there is to say
pub record DecidedBy (recording : List ℕ) (n : ℕ) : Type 0 where
  pub within : n ≤ length (take limit recording)
  pub before : (m : ℕ) → m < n → Open (exchange (take m recording))
  pub then : n < length (take limit recording) → Open (exchange (take n recording)) → ⊥

-- judging gives the number and place, the kind, the attempts, the bytes read and what the three buffers start with, whatever
-- their lengths; so does closing. A state has answered exactly where the bytes that are read decide
pub record AsJudged (runs : List (List ℕ)) : Type 0 where
  pub answered : (command first second : ℕ) → closing (fed_all fresh runs).state command first second ≡ judged (joined runs) command first second
  pub used : DecidedBy (joined runs) (fed_all fresh runs).used
  pub known : has_answered (fed_all fresh runs).state ≡ true → Open (exchange (take limit (joined runs))) → ⊥
  pub not_known : has_answered (fed_all fresh runs).state ≡ false → Open (exchange (take limit (joined runs)))

abbrev pub AnyCuts : Type 0
AnyCuts = (runs : List (List ℕ)) → AsJudged runs

-- any two ways of cutting one recording end in one state, with as many bytes used; it may have begun in any state
abbrev pub AnyTwoCuts : Type 0
AnyTwoCuts = (s : Listening) (runs runs' : List (List ℕ)) → joined runs ≡ joined runs' → fed_all s runs ≡ fed_all s runs'

-- a state that has answered uses no byte and stays as it is
abbrev pub AnsweredStays : Type 0
AnsweredStays = (s : Listening) (run : List ℕ) → has_answered s ≡ true → fed s run ≡ record { state = s; used = 0 }

-- closing with room makes a state that has answered, and that gives the same answer again; without room it leaves the state
pub record Closes (s : Listening) : Type 0 where
  pub with_room : (command first second : ℕ) → rooms command first second ≡ true → has_answered (closing_state s command first second) ≡ true
  pub again : (command first second : ℕ) → rooms command first second ≡ true
      → (command' first' second' : ℕ) → closing (closing_state s command first second) command' first' second' ≡ closing s command' first' second'
  pub without : (command first second : ℕ) → rooms command first second ≡ false → closing_state s command first second ≡ s

abbrev pub ClosedStays : Type 0
ClosedStays = (s : Listening) → Closes s

-- ---- feeding and closing in any order

-- a run is fed, or the input is closed with buffers of these lengths
pub data Call : Type 0 where
  feeds : List ℕ → Call
  closes : ℕ → ℕ → ℕ → Call

unfoldable pub state_after : Listening → List Call → Listening
state_after s [] = s
state_after s (feeds run ∷ calls) = state_after (fed s run).state calls
state_after s (closes command first second ∷ calls) = state_after (closing_state s command first second) calls

-- the runs before the first closing that had room: what comes behind it is not heard
unfoldable pub recorded : List Call → List ℕ
recorded [] = []
recorded (feeds run ∷ calls) = run ++ recorded calls
recorded (closes command first second ∷ calls) = pick (rooms command first second) [] (recorded calls)

-- after any calls, closing gives what judging that recording gives
abbrev pub AnyCalls : Type 0
AnyCalls = (calls : List Call) (command first second : ℕ) → closing (state_after fresh calls) command first second ≡ judged (recorded calls) command first second
