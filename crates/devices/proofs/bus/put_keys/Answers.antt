-- `devices::bus::put_keys` meets its contract. Assumes nothing.
use mathlib.Core.Path.{refl, sym, ap, ◌∙◌}
use mathlib.Core.List.{List}
use Prim.Native.Nat.{ℕ}
use native.Mathlib.Omega.{arith}
use lib.ListN.{get_or, take, set, length-set}
use lib.Seq.{take_all}
use borrow.Author.Tests.{ltb-true}
use Rattle.lists.specs.Starting.{starting}
use Rattle.table.specs.Table.{serial_limit, serial_right}
use Rattle.turns.specs.Request.{keys_of}
use Rattle.lists.proofs.All.{all_at}
use Rattle.lists.proofs.Filling.{starting_more}
use Rattle.turns.proofs.Keys.{keys_length, keys_at}
use Rattle.devices.proofs.bus.put_keys.Goals as goal

pub loop-i-init : goal.loop-i-init
loop-i-init c = (omega arith, refl, refl)

pub key-requires : goal.key-requires
key-requires c = ltb-true (get_or c.args.serials.now c.loop-i.i 0) serial_limit (all_at serial_right c.args.serials.now c.requires.2 c.loop-i.i (omega arith))

pub loop-i-preserved : goal.loop-i-preserved
loop-i-preserved c =
    let serials = c.args.serials.now in
    let marks = c.args.marks.now in (
      omega arith,
      length-set c.loop-i.keys c.loop-i.i c.key.result ∙ c.loop-i.invariant.1,
      ap (λ (l : List ℕ). set l c.loop-i.i c.key.result) c.loop-i.invariant.2
          ∙ ap (set (starting (take c.loop-i.i (keys_of serials marks)) c.args.keys.now) c.loop-i.i) (c.key.ensures ∙ sym (keys_at serials marks c.requires.0 c.loop-i.i (omega arith)))
          ∙ starting_more (keys_of serials marks) c.args.keys.now c.loop-i.i (omega (arith, keys_length serials marks c.requires.0)) (omega (arith, keys_length serials marks c.requires.0)),
    )

pub returns : goal.returns
returns c =
    let serials = c.args.serials.now in
    let marks = c.args.marks.now in
    c.loop-i.invariant.2 ∙ ap (λ (l : List ℕ). starting l c.args.keys.now) (take_all c.loop-i.i (keys_of serials marks) (omega (arith, keys_length serials marks c.requires.0)))
