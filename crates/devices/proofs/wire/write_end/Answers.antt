-- `devices::wire::write_end` meets its contract. Assumes nothing.
use mathlib.Core.Path.{sym, ap, ◌∙◌}
use Prim.Native.Nat.{◌-◌}
use native.Mathlib.Omega.{arith}
use borrow.Rule.Slice.PartMut.{mid_of}
use lib.ListN.{length}
use Rattle.refusal.specs.Output.{Output, left}
use Rattle.answers.specs.Layout.{end_frame}
use Rattle.devices.specs.Calls.{answer_bytes}
use Rattle.answers.proofs.FrameLengths.{end_written}
use Rattle.devices.proofs.AnswerBytes.{end_bytes_length, answer_put}
use Rattle.devices.proofs.wire.write_end.Goals as goal

pub returns : goal.returns
unfolding answer_bytes
returns c = let filled = c.put_fill.new.out in (
  sym (end_bytes_length c.args.dominant),
  answer_put c.args.answer.now filled c.write_end.new.out end_frame c.args.dominant c.requires.1 c.requires.0 c.put_fill.auto.out c.put_fill.ensures
      (λ room. c.write_end.ensures.output ∙ ap (λ (o : Output). left o (mid_of c.args.dominant (length filled - c.args.dominant) filled)) (end_written (length (mid_of c.args.dominant (length filled - c.args.dominant) filled)) (omega (arith, room)))),
)
