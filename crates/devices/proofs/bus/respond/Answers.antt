-- `devices::bus::respond` meets its contract: a start contends with all marks 0. Assumes nothing.
use mathlib.Core.Path.{◌≡◌, sym, subst}
use mathlib.Core.Bool.{true}
use mathlib.Core.List.{List}
use Prim.Native.Nat.{ℕ}
use Rattle.table.specs.Table.{columns, valid}
use Rattle.turns.proofs.TurnCases.{start_is, continue_is}
use Rattle.turns.proofs.TurnKeeps.{cleared_valid}
use Rattle.devices.proofs.bus.respond.Goals as goal

pub contend-requires : goal.contend-requires
contend-requires c = let t = columns c.args.serials.now c.args.addresses.now c.args.marks.now in
    subst (λ (l : List ℕ). valid (columns t.serials t.addresses l) ≡ true) (sym c.clear.ensures) (cleared_valid t c.requires)

pub returns-in-Start : goal.returns-in-Start
returns-in-Start c = let t = columns c.args.serials.now c.args.addresses.now c.args.marks.now in
    start_is c.args.request t c.clear.new.marks c.contend.result (columns t.serials t.addresses c.contend.new.marks) c.in-Start.is c.clear.ensures c.contend.ensures

pub returns-in-Continue : goal.returns-in-Continue
returns-in-Continue c = let t = columns c.args.serials.now c.args.addresses.now c.args.marks.now in
    continue_is c.args.request t c.contend-in-Continue.result (columns t.serials t.addresses c.contend-in-Continue.new.marks) c.in-Continue.is c.contend-in-Continue.ensures
