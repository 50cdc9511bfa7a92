-- `framing::check_passes` meets its contract: the two bytes are compared one after the other. Assumes nothing.
use mathlib.Core.Path.{sym, ap, ◌∙◌}
use mathlib.Core.List.{List}
use lib.ListN.{get_or}
use Prim.Native.Nat.{ℕ, ◌+◌}
use lib.Dec.{eqb}
use Rattle.framing.specs.Layout.{check_bytes}
use Rattle.framing.proofs.HeadCheck.{first_differs, first_same}
use Rattle.framing.proofs.check_passes.Goals as goal

pub returns-then-input-place : goal.returns-then-input-place
unfolding check_bytes
returns-then-input-place c =
    let args = c.args in
    let check = c.check_of-check.ensures in
    sym (first_differs args.input.now args.place _ _ c.requires.1 (λ e. c.if-input-place.true (e ∙ sym (ap (λ (l : List ℕ). get_or l 0 0) check))))

pub returns : goal.returns
unfolding check_bytes
returns c =
    let args = c.args in
    let check = c.check_of-check.ensures in
    ap (λ (l : List ℕ). eqb (get_or args.input.now (args.place + 1) 0) (get_or l 1 0)) check
    ∙ sym (first_same args.input.now args.place _ _ c.requires.1 (c.if-input-place.false ∙ ap (λ (l : List ℕ). get_or l 0 0) check))
