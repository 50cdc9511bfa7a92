-- `railbus::is_short` meets its contract. Assumes nothing.
use borrow.Author.Tests.{eq-eqb, ne_eqb}
use Rattle.railbus.proofs.is_short.Goals as goal

pub returns-then-letter-eq-READ_REQUEST : goal.returns-then-letter-eq-READ_REQUEST
returns-then-letter-eq-READ_REQUEST c = simp (eq-eqb _ _ c.if-letter-eq-READ_REQUEST.true)

pub returns-then-letter-eq-SYNC : goal.returns-then-letter-eq-SYNC
returns-then-letter-eq-SYNC c = simp (ne_eqb _ _ c.if-letter-eq-READ_REQUEST.false, eq-eqb _ _ c.if-letter-eq-SYNC.true)

pub returns : goal.returns
returns c = simp (ne_eqb _ _ c.if-letter-eq-READ_REQUEST.false, ne_eqb _ _ c.if-letter-eq-SYNC.false)
