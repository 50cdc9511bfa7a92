-- `newevents::slots::put_bytes` meets its contract. Assumes nothing.
use mathlib.Core.Path.{refl, ap, ◌∙◌}
use mathlib.Core.List.{List}
use Prim.Native.Nat.{ℕ}
use native.Mathlib.Omega.{arith}
use lib.ListN.{get_or, set, length-set}
use lib.Seq.{take_all}
use Rattle.lists.specs.Starting.{starting}
use Rattle.lists.proofs.Filling.{starting_more}
use Rattle.newevents.proofs.slots.put_bytes.Goals as goal

pub loop-i-init : goal.loop-i-init
loop-i-init c = (omega arith, refl, refl)

pub loop-i-preserved : goal.loop-i-preserved
loop-i-preserved c =
    let bytes = c.args.bytes.now in
    let l = c.loop-i in (
      omega arith,
      length-set l.out l.i (get_or bytes l.i 0) ∙ l.invariant.1,
      ap (λ (o : List ℕ). set o l.i (get_or bytes l.i 0)) l.invariant.2 ∙ starting_more bytes c.args.out.now l.i (omega arith) (omega arith),
    )

pub returns : goal.returns
returns c =
    let bytes = c.args.bytes.now in
    c.loop-i.invariant.2 ∙ ap (λ (l : List ℕ). starting l c.args.out.now) (take_all c.loop-i.i bytes (omega arith))
