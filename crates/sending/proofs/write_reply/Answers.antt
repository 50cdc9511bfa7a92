-- `sending::write_reply` meets its contract: the refusal is picked by the test that led there.
-- Assumes nothing.
use mathlib.Core.Path.{sym, ap, ◌∙◌}
use mathlib.Core.List.{List}
use Prim.Native.Nat.{ℕ, ◌+◌}
use lib.ListN.{length, take}
use borrow.Author.Tests.{le-leb, lt-leb}
use Rattle.refusal.specs.Number.{length_over, at_place}
use Rattle.refusal.specs.Output.{bytes}
use Rattle.refusal.proofs.Writer.{wrote_none, wrote_same}
use Rattle.escapes.specs.Escape.{expanded}
use Rattle.sending.specs.Sending.{closed, reply_output}
use Rattle.sending.proofs.write_reply.Goals as goal

pub returns-then-n-gt-LONGEST : goal.returns-then-n-gt-LONGEST
unfolding reply_output
returns-then-n-gt-LONGEST c =
    let payload = c.args.payload.now in
    let old = c.args.out.now in
    let o = reply_output payload in
    wrote_none o (length old) old (at_place length_over 0) c.refused.result (simp (lt-leb _ _ c.if-n-gt-LONGEST.true)) c.refused.ensures

pub returns : goal.returns
unfolding reply_output
returns c =
    let payload = c.args.payload.now in
    let old = c.args.out.now in
    let o = reply_output payload in
    let body = c.with_data.result in
    wrote_same (bytes (expanded (closed (take (1 + length payload) body)))) o (length old) old c.send.new.out c.send.result
    (ap (λ (l : List ℕ). bytes (expanded (closed l))) c.with_data.ensures ∙ sym (simp (le-leb _ _ c.if-n-gt-LONGEST.false))) c.send.ensures
