-- `polls::answer::send` meets its contract. Assumes nothing.
use mathlib.Core.Path.{◌≡◌, sym, ap, ◌∙◌}
use mathlib.Core.List.{map}
use Prim.Native.Nat.{ℕ, ◌+◌, ◌-◌, ◌≤◌}
use native.Mathlib.Omega.{arith}
use borrow.Rule.Slice.PartMut.{mid_of}
use lib.ListN.{length, take, replicate}
use Rattle.lists.proofs.Filling.{start_of}
use Rattle.answers.proofs.BehindFill.{behind_fill_lem}
use Rattle.packets.specs.Layout.{packet_frame}
use Rattle.queues.specs.Queues.{queued_from}
use Rattle.polls.specs.Poll.{event_of}
use Rattle.polls.specs.Calls.{heard_bytes}
use Rattle.polls.specs.Inner.{packet_body}
use Rattle.polls.proofs.PacketBody.{frame_length_lem, packet_length, closed_put}
use Rattle.polls.proofs.answer.send.Goals as goal

pub returns : goal.returns
unfolding heard_bytes
returns c =
    let a = c.args in
    let r = c.put_body-end.result in
    let events = queued_from a.events a.slots.now in
    let filled = c.put_fill.new.out in
    let frame = packet_frame a.sender a.flag a.count (map event_of events) in
    let long : length frame ≡ r + 2 = frame_length_lem a.sender a.flag a.count events ∙ ap (λ (k : ℕ). k + 2) (sym c.put_body-end.ensures.0) in
    let room : a.dominant + length frame ≤ length a.answer.now = omega (arith, c.put_body-end.ensures.2, c.requires.1, c.requires.2) in (
      ap (λ (k : ℕ). a.dominant + k + 2) c.put_body-end.ensures.0 ∙ sym (packet_length a.dominant a.sender a.flag a.count events),
      behind_fill_lem (length frame) a.answer.now filled c.write_closed.new.out frame a.dominant room c.put_fill.auto.out c.put_fill.ensures
          (λ enough. closed_put a.sender a.flag a.count events _ (mid_of a.dominant (length filled - a.dominant) filled) c.write_closed.new.out (ap (take r) c.put_body-end.ensures.1 ∙ start_of (packet_body a.sender a.flag a.count events) (replicate 102 0) r (sym c.put_body-end.ensures.0)) c.write_closed.ensures.output enough),
    )
