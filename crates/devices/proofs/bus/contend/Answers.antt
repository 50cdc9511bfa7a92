-- `devices::bus::contend` meets its contract: silence, an unscanned winner and a scanned one, as the definition has them.
-- Assumes nothing.
use mathlib.Core.Path.{ap}
use native.Mathlib.Omega.{arith}
use Rattle.arbitration.specs.declared.Decided.{Decided}
use Rattle.table.specs.Table.{columns}
use Rattle.table.proofs.Meaning.{tested}
use Rattle.turns.proofs.TurnCases.{silent_is, found_is, end_is, place_inside}
use Rattle.devices.proofs.bus.contend.Goals as goal

pub returns-then-serials-eq0 : goal.returns-then-serials-eq0
returns-then-serials-eq0 c = let t = columns c.args.serials.now c.args.addresses.now c.args.marks.now in
    silent_is t c.if-serials-eq0.true

pub arbitrate-won-requires : goal.arbitrate-won-requires
arbitrate-won-requires c = let t = columns c.args.serials.now c.args.addresses.now c.args.marks.now in
    let g = tested t c.requires in
    (g.marks_long, g.few, g.serials_right)

pub bounds-marks-place : goal.bounds-marks-place
bounds-marks-place c = let t = columns c.args.serials.now c.args.addresses.now c.args.marks.now in
    omega (arith, (tested t c.requires).marks_long, ap (λ (d : Decided). d.place) c.arbitrate-won.ensures, place_inside t c.requires c.if-serials-eq0.false)

pub bounds-marks-place-then-marks-place-eq0 : goal.bounds-marks-place-then-marks-place-eq0
bounds-marks-place-then-marks-place-eq0 c = let t = columns c.args.serials.now c.args.addresses.now c.args.marks.now in
    omega (arith, (tested t c.requires).marks_long, ap (λ (d : Decided). d.place) c.arbitrate-won.ensures, place_inside t c.requires c.if-serials-eq0.false)

pub offset_bounds-serials-place : goal.offset_bounds-serials-place
offset_bounds-serials-place c = let t = columns c.args.serials.now c.args.addresses.now c.args.marks.now in
    omega (arith, (tested t c.requires).few, ap (λ (d : Decided). d.place) c.arbitrate-won.ensures, place_inside t c.requires c.if-serials-eq0.false)

pub bounds-serials-place : goal.bounds-serials-place
bounds-serials-place c = let t = columns c.args.serials.now c.args.addresses.now c.args.marks.now in
    omega (arith, ap (λ (d : Decided). d.place) c.arbitrate-won.ensures, place_inside t c.requires c.if-serials-eq0.false)

pub bounds-addresses-place : goal.bounds-addresses-place
bounds-addresses-place c = let t = columns c.args.serials.now c.args.addresses.now c.args.marks.now in
    omega (arith, (tested t c.requires).addresses_long, ap (λ (d : Decided). d.place) c.arbitrate-won.ensures, place_inside t c.requires c.if-serials-eq0.false)

pub returns-then-marks-place-eq0 : goal.returns-then-marks-place-eq0
returns-then-marks-place-eq0 c = let t = columns c.args.serials.now c.args.addresses.now c.args.marks.now in
    found_is t c.if-serials-eq0.false c.arbitrate-won.result c.arbitrate-won.ensures c.if-marks-place-eq0.true

pub returns : goal.returns
returns c = let t = columns c.args.serials.now c.args.addresses.now c.args.marks.now in
    end_is t c.if-serials-eq0.false c.arbitrate-won.result c.arbitrate-won.ensures c.if-marks-place-eq0.false
