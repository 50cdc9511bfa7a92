-- `framing::marked_at` meets its contract: its tests are the rest of those of the definition. Assumes nothing.
use mathlib.Core.Path.{◌≡◌, sym, ◌∙◌}
use Prim.Native.Nat.{◌+◌, ◌-◌}
use native.Mathlib.Omega.{arith}
use lib.ListN.{length, get_or}
use Rattle.framing.specs.Layout.{length_for}
use Rattle.framing.proofs.HeadCheck.{head_third, head_length, head_check, head_framed, passes_is}
use Rattle.framing.proofs.marked_at.Goals as goal

pub returns-then-not-takes : goal.returns-then-not-takes
returns-then-not-takes c =
    let args = c.args in
    let refuses = sym c.takes.ensures ∙ c.if-not-takes.true in
    c.refused.ensures ∙ sym (head_third args.one args.other args.input.now args.at (omega arith) c.requires.1 c.requires.2 refuses)

pub returns-then-left-length_for : goal.returns-then-left-length_for
returns-then-left-length_for c =
    let args = c.args in
    let takes = sym c.takes.ensures ∙ c.if-not-takes.false in
    c.refused-then-left-length_for.ensures
    ∙ sym (head_length args.one args.other args.input.now args.at (omega arith) c.requires.1 c.requires.2 takes (λ same. omega (arith, same, c.length_for.ensures)))

pub returns-then-not-check_passes : goal.returns-then-not-check_passes
returns-then-not-check_passes c =
    let args = c.args in
    let takes = sym c.takes.ensures ∙ c.if-not-takes.false in
    let fills : length args.input.now - args.at ≡ length_for (get_or args.input.now (args.at + 2) 0) = omega (arith, c.length_for.ensures) in
    let fails = passes_is args.input.now args.at ∙ sym c.check_passes.ensures ∙ c.if-not-check_passes.true in
    c.refused-then-not-check_passes.ensures ∙ sym (head_check args.one args.other args.input.now args.at (omega arith) c.requires.1 c.requires.2 takes fills fails)

pub returns : goal.returns
returns c =
    let args = c.args in
    let takes = sym c.takes.ensures ∙ c.if-not-takes.false in
    let fills : length args.input.now - args.at ≡ length_for (get_or args.input.now (args.at + 2) 0) = omega (arith, c.length_for.ensures) in
    let right = passes_is args.input.now args.at ∙ sym c.check_passes.ensures ∙ c.if-not-check_passes.false in
    sym (head_framed args.one args.other args.input.now args.at (omega arith) c.requires.1 c.requires.2 takes fills right)
