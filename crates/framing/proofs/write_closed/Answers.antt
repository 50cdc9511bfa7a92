-- `framing::write_closed` meets its contract. Assumes nothing.
use Rattle.std.specs.Prelude.{Ok}
use mathlib.Core.Path.{ap}
use mathlib.Core.List.{◌++◌}
use Prim.Native.Nat.{◌+◌}
use native.Mathlib.Omega.{arith}
use lib.ListN.{length, length-set}
use Rattle.refusal.specs.Output.{bytes}
use Rattle.refusal.proofs.Writer.{wrote_short, wrote_all}
use Rattle.framing.specs.Layout.{check_bytes}
use Rattle.framing.proofs.CheckBehind.{length_closed, check_behind}
use Rattle.framing.proofs.write_closed.Goals as goal

pub returns-then-room-lt2 : goal.returns-then-room-lt2
returns-then-room-lt2 c =
    let body = c.args.body.now in
    let old = c.args.out.now in
    wrote_short (bytes (body ++ check_bytes body)) (length old) old (length body + 2) (ap Ok (length_closed body)) _ (omega arith) c.refused.ensures

pub returns-then-room-size : goal.returns-then-room-size
returns-then-room-size c =
    let body = c.args.body.now in
    let old = c.args.out.now in
    wrote_short (bytes (body ++ check_bytes body)) (length old) old (length body + 2) (ap Ok (length_closed body)) _ (omega arith) c.refused-then-room-size.ensures

pub bounds-out-size-2 : goal.bounds-out-size-2
bounds-out-size-2 c = simp length-set (omega arith)

pub returns : goal.returns
returns c =
    let body = c.args.body.now in
    let old = c.args.out.now in
    wrote_all (bytes (body ++ check_bytes body)) (length old) old (length body + 2) (ap Ok (length_closed body)) _ (omega arith)
    (check_behind body old c.put.new.out c.check_of-check.result c.put.ensures c.check_of-check.ensures (omega arith))
