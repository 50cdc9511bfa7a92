-- `railbus::is_long` meets its contract. Assumes nothing.
use mathlib.Core.Path.{sym, ◌∙◌}
use borrow.Author.Tests.{eq-eqb, ne_eqb}
use Rattle.lists.proofs.Cases.{either_second}
use Rattle.railbus.proofs.is_long.Goals as goal

pub returns-then-letter-eq-WRITE_REQUEST : goal.returns-then-letter-eq-WRITE_REQUEST
returns-then-letter-eq-WRITE_REQUEST c = simp (eq-eqb _ _ c.if-letter-eq-WRITE_REQUEST.true)

pub returns-then-letter-eq-READ_ACKNOWLEDGE : goal.returns-then-letter-eq-READ_ACKNOWLEDGE
returns-then-letter-eq-READ_ACKNOWLEDGE c = simp (ne_eqb _ _ c.if-letter-eq-WRITE_REQUEST.false, eq-eqb _ _ c.if-letter-eq-READ_ACKNOWLEDGE.true)

pub returns-then-letter-eq-WRITE_ACKNOWLEDGE : goal.returns-then-letter-eq-WRITE_ACKNOWLEDGE
returns-then-letter-eq-WRITE_ACKNOWLEDGE c = simp (ne_eqb _ _ c.if-letter-eq-WRITE_REQUEST.false, ne_eqb _ _ c.if-letter-eq-READ_ACKNOWLEDGE.false, eq-eqb _ _ c.if-letter-eq-WRITE_ACKNOWLEDGE.true)

pub returns : goal.returns
returns c = sym (either_second _ (ne_eqb _ _ c.if-letter-eq-WRITE_REQUEST.false) ∙ either_second _ (ne_eqb _ _ c.if-letter-eq-READ_ACKNOWLEDGE.false) ∙ either_second _ (ne_eqb _ _ c.if-letter-eq-WRITE_ACKNOWLEDGE.false))
