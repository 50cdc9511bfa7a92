-- `addresses::kind` meets its contract: each answer is picked by the tests that led there.
-- Assumes nothing.
use mathlib.Core.Path.{sym, ◌∙◌}
use borrow.Author.Tests.{eq-eqb, ne_eqb}
use Rattle.addresses.specs.Address.{kind_of}
use Rattle.addresses.proofs.kind.Goals as goal

pub returns-then-destination-eq-EVERYONE : goal.returns-then-destination-eq-EVERYONE
unfolding kind_of
returns-then-destination-eq-EVERYONE c = simp (eq-eqb _ _ c.if-destination-eq-EVERYONE.true)

pub returns-then-is_initiator : goal.returns-then-is_initiator
unfolding kind_of
returns-then-is_initiator c = simp (ne_eqb _ _ c.if-destination-eq-EVERYONE.false, sym c.is_initiator.ensures ∙ c.if-is_initiator.true)

pub returns-else-is_initiator : goal.returns-else-is_initiator
unfolding kind_of
returns-else-is_initiator c = simp (ne_eqb _ _ c.if-destination-eq-EVERYONE.false, sym c.is_initiator.ensures ∙ c.if-is_initiator.false)
