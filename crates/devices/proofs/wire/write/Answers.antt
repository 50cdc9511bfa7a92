-- `devices::wire::write` meets its contract, answer by answer. Assumes nothing.
use Rattle.std.specs.Prelude.{Some}
use mathlib.Core.Path.{◌≡◌, sym, ap, ◌∙◌, subst}
use Rattle.lists.specs.Starting.{starting}
use Rattle.devices.specs.Calls.{answer_bytes, response_to}
use Rattle.turns.specs.Inner.{Writable}
use Rattle.turns.specs.declared.Answer.{Answer}
use Rattle.turns.specs.declared.Answer.TheVariants.{Silence, Found, End}
use Rattle.devices.proofs.AnswerBytes.{silence_bytes}
use Rattle.devices.proofs.wire.write.Goals as goal

pub write_found-requires : goal.write_found-requires
write_found-requires c = let e : c.args.heard ≡ Found c.in-Found.dominant c.in-Found.serial c.in-Found.address = c.in-Found.is in
    let w = subst Writable e c.requires.0 in
    (w.0, w.1, c.requires.1)

pub write_end-requires : goal.write_end-requires
write_end-requires c = let e : c.args.heard ≡ End c.in-End.dominant = c.in-End.is in
    (subst Writable e c.requires.0, c.requires.1)

pub returns-in-Silence : goal.returns-in-Silence
returns-in-Silence c = let e : c.args.heard ≡ Silence = c.in-Silence.is in
    (ap response_to (sym e), sym (ap (λ (a : Answer). starting (answer_bytes a) c.args.answer.now) e ∙ silence_bytes c.args.answer.now))

pub returns-in-Found : goal.returns-in-Found
returns-in-Found c = let e : c.args.heard ≡ Found c.in-Found.dominant c.in-Found.serial c.in-Found.address = c.in-Found.is in (
  ap Some c.write_found.ensures.0 ∙ ap response_to (sym e),
  c.write_found.ensures.1 ∙ ap (λ (a : Answer). starting (answer_bytes a) c.args.answer.now) (sym e),
)

pub returns-in-End : goal.returns-in-End
returns-in-End c = let e : c.args.heard ≡ End c.in-End.dominant = c.in-End.is in (
  ap Some c.write_end.ensures.0 ∙ ap response_to (sym e),
  c.write_end.ensures.1 ∙ ap (λ (a : Answer). starting (answer_bytes a) c.args.answer.now) (sym e),
)
