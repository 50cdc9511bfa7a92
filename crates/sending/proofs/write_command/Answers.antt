-- `sending::write_command` meets its contract: each refusal is picked by the tests that led there.
-- Assumes nothing.
use mathlib.Core.Path.{sym, ap, ◌∙◌}
use mathlib.Core.List.{List}
use Prim.Native.Nat.{ℕ, ◌+◌}
use lib.ListN.{length, take}
use borrow.Author.Tests.{le-leb, lt-leb}
use Rattle.refusal.specs.Number.{source_wrong, destination_wrong, length_over, at_place}
use Rattle.refusal.specs.Output.{bytes}
use Rattle.refusal.proofs.Writer.{wrote_none, wrote_same}
use Rattle.escapes.specs.Escape.{expanded}
use Rattle.sending.specs.Sending.{closed, command_output}
use Rattle.sending.proofs.write_command.Goals as goal

pub returns-then-not-is_initiator : goal.returns-then-not-is_initiator
unfolding command_output
returns-then-not-is_initiator c =
    let payload = c.args.payload.now in
    let old = c.args.out.now in
    let o = command_output c.args.source c.args.destination c.args.primary c.args.secondary payload in
    wrote_none o (length old) old (at_place source_wrong 0) c.refused.result (simp (sym c.is_initiator.ensures ∙ c.if-not-is_initiator.true)) c.refused.ensures

pub returns-then-is_reserved : goal.returns-then-is_reserved
unfolding command_output
returns-then-is_reserved c =
    let payload = c.args.payload.now in
    let old = c.args.out.now in
    let o = command_output c.args.source c.args.destination c.args.primary c.args.secondary payload in
    wrote_none o (length old) old (at_place destination_wrong 0) c.refused-then-is_reserved.result
    (simp (sym c.is_initiator.ensures ∙ c.if-not-is_initiator.false, sym c.is_reserved.ensures ∙ c.if-is_reserved.true)) c.refused-then-is_reserved.ensures

pub returns-then-n-gt-LONGEST : goal.returns-then-n-gt-LONGEST
unfolding command_output
returns-then-n-gt-LONGEST c =
    let payload = c.args.payload.now in
    let old = c.args.out.now in
    let o = command_output c.args.source c.args.destination c.args.primary c.args.secondary payload in
    wrote_none o (length old) old (at_place length_over 0) c.refused-then-n-gt-LONGEST.result
    (simp (sym c.is_initiator.ensures ∙ c.if-not-is_initiator.false, sym c.is_reserved.ensures ∙ c.if-is_reserved.false, lt-leb _ _ c.if-n-gt-LONGEST.true)) c.refused-then-n-gt-LONGEST.ensures

pub returns : goal.returns
unfolding command_output
returns c =
    let payload = c.args.payload.now in
    let old = c.args.out.now in
    let o = command_output c.args.source c.args.destination c.args.primary c.args.secondary payload in
    let body = c.with_data.result in
    let n = length payload in
    wrote_same (bytes (expanded (closed (take (5 + n) body)))) o (length old) old c.send.new.out c.send.result
    (ap (λ (l : List ℕ). bytes (expanded (closed l))) c.with_data.ensures
    ∙ sym (simp (sym c.is_initiator.ensures ∙ c.if-not-is_initiator.false, sym c.is_reserved.ensures ∙ c.if-is_reserved.false, le-leb _ _ c.if-n-gt-LONGEST.false)))
    c.send.ensures
