-- Rules E19 to E23 for a capture that is heard run by run, as its bytes arrive. Who cuts it behind each SYN finds the same stretches
-- however the runs are cut, and tells idle time from an exchange without keeping a stretch's bytes: a fresh state that was fed one has
-- not answered exactly where it is idle time.
-- Assumes nothing.
use Rattle.std.specs.Prelude.{ℕ, ◌+◌, ◌-◌, ◌≤◌, ◌<◌, ◌≡◌, Bool, not, List, ◌++◌, eqb, length, get_or}
use Rattle.lists.specs.Choice.{pick}
use Rattle.lists.specs.Tests.{any}
use Rattle.escapes.specs.Escape.{syn}
use Rattle.beginning.specs.Beginning.{is_piece}
use Rattle.exchange.specs.Exchange.{limit}
use Rattle.listening.specs.Listening.{fresh, has_answered, fed}
use Rattle.captures.specs.Capture.{through_syn}

-- whether SYN stands among these bytes
abbrev pub has_syn : List ℕ → Bool
has_syn bytes = any (λ b. eqb b syn) bytes

-- SYN stands at the end of these bytes, and nowhere before
pub record EndsInSyn (stretch : List ℕ) : Type 0 where
  pub some : 0 < length stretch
  pub last : get_or stretch (length stretch - 1) 0 ≡ syn
  pub alone : (i : ℕ) → i + 1 < length stretch → get_or stretch i 0 ≡ syn → ⊥

pub record RunByRun : Type 0 where
  -- where the first SYN stands does not depend on the cuts: it is sought in a run, and only where there is none, in what follows
  pub cut : (run rest : List ℕ) → through_syn (run ++ rest) ≡ pick (has_syn run) (through_syn run) (length run + through_syn rest)
  -- a stretch that SYN ends is a piece of idle time, rule E21, exactly where a fresh state that was fed it has not answered
  pub idle : (stretch : List ℕ) → EndsInSyn stretch → length stretch ≤ limit → has_answered (fed fresh stretch).state ≡ not (is_piece stretch)
