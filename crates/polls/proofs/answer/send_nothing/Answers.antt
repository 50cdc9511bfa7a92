-- `polls::answer::send_nothing` meets its contract. Assumes nothing.
use mathlib.Core.Path.{sym, ◌∙◌}
use Prim.Native.Nat.{◌-◌}
use native.Mathlib.Omega.{arith}
use borrow.Rule.Slice.PartMut.{mid_of}
use lib.ListN.{length}
use Rattle.answers.proofs.BehindFill.{behind_fill_lem}
use Rattle.packets.specs.Layout.{no_events_frame}
use Rattle.packets.specs.Writing.{write_no_events}
use Rattle.polls.specs.Calls.{heard_bytes}
use Rattle.polls.proofs.PacketBody.{fitted, nothing_frame_length, nothing_length}
use Rattle.polls.proofs.answer.send_nothing.Goals as goal

pub returns : goal.returns
unfolding heard_bytes write_no_events
returns c =
    let a = c.args in
    let filled = c.put_fill.new.out in (
      sym (nothing_length a.dominant a.sender),
      behind_fill_lem (length no_events_frame) a.answer.now filled c.write_no_events.new.out no_events_frame a.dominant (omega (arith, nothing_frame_length, c.requires.0, c.requires.1)) c.put_fill.auto.out c.put_fill.ensures
          (λ enough. c.write_no_events.ensures.output ∙ fitted no_events_frame (mid_of a.dominant (length filled - a.dominant) filled) enough),
    )
