-- `telegram::head_at` meets its contract: nothing is read yet where the head begins.
-- Assumes nothing.
use mathlib.Core.Path.{refl, ap, ◌∙◌}
use mathlib.Core.List.{[]}
use Prim.Native.Nat.{ℕ}
use native.Mathlib.Omega.{arith}
use Rattle.lists.proofs.Cases.{true_not_false}
use Rattle.telegram.specs.Telegram.{collected}
use Rattle.telegram.specs.View.{extent_of}
use Rattle.telegram.proofs.TelegramRead.{some_head}
use Rattle.telegram.proofs.head_at.Goals as goal

pub collect-requires : goal.collect-requires
collect-requires c = record { n_bound = omega (arith, c.head_of.ensures, some_head c.args.command); command_bound = λ e. true_not_false refl e }

pub returns : goal.returns
returns c =
    let args = c.args in
    c.collect.ensures [] refl refl ∙ ap (λ (n : ℕ). extent_of (collected args.command args.run.now n [] args.at args.at)) c.head_of.ensures
