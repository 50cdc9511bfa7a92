-- `railbus::write_checked` meets its contract. Assumes nothing.
use Rattle.std.specs.Prelude.{Ok}
use mathlib.Core.Path.{ap}
use mathlib.Core.List.{◌++◌}
use Prim.Native.Nat.{◌+◌}
use native.Mathlib.Omega.{arith}
use lib.ListN.{length, length-set}
use Rattle.refusal.specs.Output.{bytes}
use Rattle.refusal.proofs.Writer.{wrote_short, wrote_all}
use Rattle.railbus.specs.Layout.{check_digits}
use Rattle.railbus.proofs.Writer.{length_checked, check_behind}
use Rattle.railbus.proofs.write_checked.Goals as goal

pub returns-then-room-lt2 : goal.returns-then-room-lt2
returns-then-room-lt2 c =
    let characters = c.args.characters.now in
    let old = c.args.out.now in
    wrote_short (bytes (characters ++ check_digits characters)) (length old) old (length characters + 2) (ap Ok (length_checked characters)) _ (omega arith) c.refused.ensures

pub returns-then-room-size : goal.returns-then-room-size
returns-then-room-size c =
    let characters = c.args.characters.now in
    let old = c.args.out.now in
    wrote_short (bytes (characters ++ check_digits characters)) (length old) old (length characters + 2) (ap Ok (length_checked characters)) _ (omega arith) c.refused-then-room-size.ensures

pub bounds-out-size-2 : goal.bounds-out-size-2
bounds-out-size-2 c = simp length-set (omega arith)

pub returns : goal.returns
returns c =
    let characters = c.args.characters.now in
    let old = c.args.out.now in
    wrote_all (bytes (characters ++ check_digits characters)) (length old) old (length characters + 2) (ap Ok (length_checked characters)) _ (omega arith)
    (check_behind characters old c.put.new.out c.checksum-sum.result _ _ c.put.ensures c.checksum-sum.ensures (omega arith) c.digit.ensures c.digit-2.ensures (omega arith))
