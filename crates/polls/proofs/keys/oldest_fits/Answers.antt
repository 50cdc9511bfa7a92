-- `polls::keys::oldest_fits` meets its contract. Assumes nothing.
use mathlib.Core.Path.{sym, ap, ◌∙◌}
use Prim.Native.Nat.{ℕ}
use native.Mathlib.Omega.{arith}
use lib.Dec.{leb}
use borrow.Author.Tests.{eq-eqb}
use Rattle.queues.specs.Queues.{queued_from}
use Rattle.polls.specs.Poll.{oldest_fits}
use Rattle.polls.proofs.EventSlots.{none_fits, first_fits}
use Rattle.polls.proofs.keys.oldest_fits.Goals as goal

pub returns-then-count-eq0 : goal.returns-then-count-eq0
returns-then-count-eq0 c = eq-eqb c.args.count 0 c.if-count-eq0.true ∙ sym (ap (λ (k : ℕ). oldest_fits c.args.most (queued_from k c.args.slots.now)) c.if-count-eq0.true ∙ none_fits c.args.most c.args.slots.now)

pub returns-else-count-eq0 : goal.returns-else-count-eq0
returns-else-count-eq0 c = ap (λ (k : ℕ). leb k c.args.most) c.wire_length.ensures ∙ sym (first_fits c.args.count c.args.most c.args.slots.now (omega arith) c.requires.right (omega (arith, c.requires.long)))
