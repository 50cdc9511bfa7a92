-- `feeding::attempt_length` meets its contract: by what is due.
-- Assumes nothing.
use mathlib.Core.Path.{sym, ap, ◌∙◌}
use mathlib.Core.Bool.{Bool}
use Prim.Native.Nat.{min}
use borrow.Author.Tests.{lt-ltb, le-ltb}
use Rattle.lists.specs.Choice.{pick}
use Rattle.listening.specs.Listening.{syn_due, hand_room}
use Rattle.feeding.proofs.attempt_length.Goals as goal

pub returns-then-due-lt-SYN_DUE : goal.returns-then-due-lt-SYN_DUE
returns-then-due-lt-SYN_DUE c = c.hand_length.ensures ∙ sym (ap (λ (t : Bool). pick t (min c.args.held hand_room) 0) (lt-ltb c.args.due syn_due c.if-due-lt-SYN_DUE.true))

pub returns : goal.returns
returns c = sym (ap (λ (t : Bool). pick t (min c.args.held hand_room) 0) (le-ltb c.args.due syn_due c.if-due-lt-SYN_DUE.false))
