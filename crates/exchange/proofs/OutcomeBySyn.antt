-- A verdict on SYN alone makes the outcome of whatever was read before it.
-- Assumes nothing.
use Rattle.std.specs.Prelude.{Result}
use Rattle.refusal.specs.declared.Refusal.{Refusal}
use Rattle.exchange.specs.declared.judge.Accepted.{Accepted}
use mathlib.Core.Path.{◌≡◌, refl, ap, ◌∙◌}
use mathlib.Core.List.{List, []}
use Prim.Native.Nat.{ℕ}
use Rattle.addresses.specs.declared.ExchangeKind.{ExchangeKind}
use Rattle.exchange.specs.Exchange.{End, ended, open_still, on_end}
use Rattle.exchange.specs.View.{answered}
use Rattle.exchange.specs.Inner.{outcome_as}

module _ (command first second : List ℕ) (kind : ExchangeKind) (commands replies : ℕ) where
  by_end_lem : (x : End) → outcome_as command first second (answered (on_end kind commands replies [] [] [] x)) ≡ on_end kind commands replies command first second x
  by_end_lem (ended next) = refl
  by_end_lem (open_still why) = refl

  pub outcome_at : (x : End) (r : Result Accepted Refusal) → r ≡ answered (on_end kind commands replies [] [] [] x)
      → outcome_as command first second r ≡ on_end kind commands replies command first second x
  outcome_at x r is = ap (outcome_as command first second) is ∙ by_end_lem x
