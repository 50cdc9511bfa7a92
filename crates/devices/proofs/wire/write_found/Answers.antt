-- `devices::wire::write_found` meets its contract. Assumes nothing.
use mathlib.Core.Path.{sym, ap, ◌∙◌}
use Prim.Native.Nat.{◌-◌}
use borrow.Rule.Slice.PartMut.{mid_of}
use lib.ListN.{length}
use Rattle.refusal.specs.Output.{Output, left}
use Rattle.answers.specs.Layout.{found_frame}
use Rattle.devices.specs.Calls.{answer_bytes}
use Rattle.answers.proofs.FrameLengths.{found_written}
use Rattle.devices.proofs.AnswerBytes.{found_bytes_length, answer_put}
use Rattle.devices.proofs.wire.write_found.Goals as goal

pub returns : goal.returns
unfolding answer_bytes
returns c = let filled = c.put_fill.new.out in (
  sym (found_bytes_length c.args.dominant c.args.serial c.args.address),
  answer_put c.args.answer.now filled c.write_found.new.out (found_frame c.args.serial c.args.address) c.args.dominant c.requires.2 c.requires.0 c.put_fill.auto.out c.put_fill.ensures
      (λ room. c.write_found.ensures.output ∙ ap (λ (o : Output). left o (mid_of c.args.dominant (length filled - c.args.dominant) filled)) (found_written c.args.serial c.args.address (length (mid_of c.args.dominant (length filled - c.args.dominant) filled)) c.requires.1 room)),
)
