-- `relay::answers::behind_access` meets its contract: absent, then forbidden. Assumes nothing.
use Rattle.relay.proofs.AnswerCases.{absent_asked, allowed_asked, forbidden_asked}
use Rattle.relay.proofs.answers.behind_access.Goals as goal

pub returns-then-access-eq-ABSENT : goal.returns-then-access-eq-ABSENT
returns-then-access-eq-ABSENT c = let a = c.args in absent_asked a.access a.may a.write a.response c.if-access-eq-ABSENT.true

pub returns-then-may : goal.returns-then-may
returns-then-may c = let a = c.args in allowed_asked a.access a.may a.write a.response c.if-access-eq-ABSENT.false c.if-may.true

pub returns : goal.returns
returns c = let a = c.args in forbidden_asked a.access a.may a.write a.response c.if-access-eq-ABSENT.false c.if-may.false c.special.ensures
