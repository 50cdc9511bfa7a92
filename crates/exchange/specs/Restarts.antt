-- What SYN at the beginning, rule E21, makes of an exchange. The proofs are in proofs/Restarting.antt.
-- Assumes nothing.
use Rattle.std.specs.Prelude.{◌≡◌, List, ℕ, length}
use Rattle.refusal.specs.Number.{syn_early, at_place}
use Rattle.escapes.specs.Logical.{logicals_at}
use Rattle.beginning.specs.Beginning.{command_start}
use Rattle.exchange.specs.Exchange.{rejected, exchange_at, exchange}

-- no more is passed over than number 5 would be given for: without the rule the command starts at the run's first byte, and unless
-- the answer then is number 5 it is the same
abbrev pub OnlySynEarly : Type 0
OnlySynEarly = (run : List ℕ) → ((place : ℕ) → exchange_at run 0 ≡ rejected (at_place syn_early place) → ⊥) → exchange run ≡ exchange_at run 0

-- and no less: where number 5 is given, the command has two logical bytes
abbrev pub BehindTwo : Type 0
BehindTwo = (run : List ℕ) (place : ℕ) → exchange run ≡ rejected (at_place syn_early place) → length (logicals_at run 2 (command_start run)) ≡ 2
