-- An accepted exchange is read through a SYN.
-- Assumes nothing.
use mathlib.Core.Path.{◌≡◌, ap, ◌∙◌}
use mathlib.Core.Bool.{true, false}
use mathlib.Core.List.{List, []}
use Prim.Native.Nat.{ℕ, ◌+◌, ◌-◌, ◌≤◌, ◌<◌}
use native.Mathlib.Omega.{arith}
use lib.Dec.{eqb, ltb}
use lib.ListN.{length, get_or}
use borrow.Author.Tests.{ltb-true, eqb-true}
use Rattle.lists.proofs.Cases.{pick_cases}
use Rattle.escapes.specs.Escape.{syn}
use Rattle.addresses.specs.declared.ExchangeKind.{ExchangeKind}
use Rattle.addresses.specs.declared.ExchangeKind.TheVariants.{Broadcast, InitiatorInitiator, InitiatorTarget}
use Rattle.addresses.specs.Address.{kind_of}
use Rattle.telegram.specs.Telegram.{destination_of}
use Rattle.beginning.specs.Beginning.{command_start}
use Rattle.exchange.specs.Exchange.{Tries, once, twice, neither, tries_at, End, syn_at, Outcome, accepted, rejected, on_end, on_reply, on_kind, on_command, exchange_at, exchange}

module _ (run : List ℕ) where
  -- what an accepted exchange has read ends with SYN
  abbrev pub Ends : Outcome → Type 0
  Ends (accepted kind commands replies next command first second) = (0 < next) × (next ≤ length run) × (get_or run (next - 1) 0 ≡ syn)
  Ends (rejected why) = Unit {0}

  module _ (kind : ExchangeKind) (commands replies : ℕ) (command first second : List ℕ) where
    abbrev After : End → Type 0
    After e = Ends (on_end kind commands replies command first second e)

    by_end_lem : (at : ℕ) → After (syn_at run at)
    unfolding syn_at
    by_end_lem at =
        pick_cases After (ltb at (length run)) _ _
        (λ near.
        pick_cases After (eqb (get_or run at 0) syn) _ _
        (λ is.
        let back : at + 1 - 1 ≡ at = omega arith in
        (omega arith, omega (arith, ltb-true at (length run) near), ap (λ (i : ℕ). get_or run i 0) back ∙ eqb-true (get_or run at 0) syn is))
        (λ _. tt))
        (λ _. tt)

  by_reply : (commands : ℕ) (command : List ℕ) (t : Tries) → Ends (on_reply commands command run t)
  by_reply commands command (once reply next) = by_end_lem InitiatorTarget commands 1 command reply [] next
  by_reply commands command (twice first second next) = by_end_lem InitiatorTarget commands 2 command first second next
  by_reply commands command (neither why) = tt

  by_kind : (commands : ℕ) (command : List ℕ) (next : ℕ) (k : ExchangeKind) → Ends (on_kind commands command run next k)
  by_kind commands command next Broadcast = by_end_lem Broadcast commands 0 command [] [] next
  by_kind commands command next InitiatorInitiator = by_end_lem InitiatorInitiator commands 0 command [] [] next
  by_kind commands command next InitiatorTarget = by_reply commands command (tries_at false run next)

  by_command : (t : Tries) → Ends (on_command run t)
  by_command (once command next) = by_kind 1 command next (kind_of (destination_of command))
  by_command (twice first command next) = by_kind 2 command next (kind_of (destination_of command))
  by_command (neither why) = tt

  pub ends_by_syn : Ends (exchange run)
  unfolding exchange_at
  ends_by_syn = by_command (tries_at true run (command_start run))
