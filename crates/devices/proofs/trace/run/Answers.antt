-- `devices::trace::run` meets its contract. Assumes nothing.
use mathlib.Core.Path.{sym, ◌∙◌}
use native.Mathlib.Omega.{arith}
use Rattle.table.specs.Table.{columns}
use Rattle.devices.proofs.ScanUnderWay.{going_start, going_capped, going_fill, ended_few, going_ended, going_silent, found_few, going_room, going_on}
use Rattle.devices.proofs.trace.run.Goals as goal

pub loop-sent-init : goal.loop-sent-init
loop-sent-init c = going_start c.args.cap c.args.serials.now c.args.addresses.now c.args.marks.now c.args.found_serials.now c.args.found_addresses.now c.requires.0

pub offset_bounds-found_serials-sent : goal.offset_bounds-found_serials-sent
offset_bounds-found_serials-sent c = omega (arith, c.requires.1, going_room c.args.cap c.args.serials.now c.args.addresses.now c.args.marks.now c.args.found_serials.now c.args.found_addresses.now c.requires.0 c.requires.1 c.requires.2 c.loop-sent.marks c.loop-sent.found_serials c.loop-sent.found_addresses c.loop-sent.sent c.loop-sent.skipped c.loop-sent.invariant c.loop-sent-test.true c.request_after-request.result c.request_after-request.ensures c.in-Found.dominant c.in-Found.serial c.in-Found.address (sym c.respond-heard.ensures.answer_is ∙ c.in-Found.is))

pub bounds-found_serials-sent : goal.bounds-found_serials-sent
bounds-found_serials-sent c = omega (arith, c.requires.1, c.loop-sent.invariant.serials_kept, going_room c.args.cap c.args.serials.now c.args.addresses.now c.args.marks.now c.args.found_serials.now c.args.found_addresses.now c.requires.0 c.requires.1 c.requires.2 c.loop-sent.marks c.loop-sent.found_serials c.loop-sent.found_addresses c.loop-sent.sent c.loop-sent.skipped c.loop-sent.invariant c.loop-sent-test.true c.request_after-request.result c.request_after-request.ensures c.in-Found.dominant c.in-Found.serial c.in-Found.address (sym c.respond-heard.ensures.answer_is ∙ c.in-Found.is))

pub bounds-found_addresses-sent : goal.bounds-found_addresses-sent
bounds-found_addresses-sent c = omega (arith, c.requires.2, c.loop-sent.invariant.addresses_kept, going_room c.args.cap c.args.serials.now c.args.addresses.now c.args.marks.now c.args.found_serials.now c.args.found_addresses.now c.requires.0 c.requires.1 c.requires.2 c.loop-sent.marks c.loop-sent.found_serials c.loop-sent.found_addresses c.loop-sent.sent c.loop-sent.skipped c.loop-sent.invariant c.loop-sent-test.true c.request_after-request.result c.request_after-request.ensures c.in-Found.dominant c.in-Found.serial c.in-Found.address (sym c.respond-heard.ensures.answer_is ∙ c.in-Found.is))

pub overflow_add-skipped : goal.overflow_add-skipped
overflow_add-skipped c = omega (arith, going_fill c.args.cap c.args.serials.now c.args.addresses.now c.args.marks.now c.args.found_serials.now c.args.found_addresses.now c.requires.0 c.requires.1 c.requires.2 c.loop-sent.marks c.loop-sent.found_serials c.loop-sent.found_addresses c.loop-sent.sent c.loop-sent.skipped c.loop-sent.invariant c.in-Found.dominant (found_few c.args.cap c.args.serials.now c.args.addresses.now c.args.marks.now c.args.found_serials.now c.args.found_addresses.now c.requires.0 c.requires.1 c.requires.2 c.loop-sent.marks c.loop-sent.found_serials c.loop-sent.found_addresses c.loop-sent.sent c.loop-sent.skipped c.loop-sent.invariant c.loop-sent-test.true c.request_after-request.result c.request_after-request.ensures c.in-Found.dominant c.in-Found.serial c.in-Found.address (sym c.respond-heard.ensures.answer_is ∙ c.in-Found.is)))

pub loop-sent-preserved : goal.loop-sent-preserved
loop-sent-preserved c = going_on c.args.cap c.args.serials.now c.args.addresses.now c.args.marks.now c.args.found_serials.now c.args.found_addresses.now c.requires.0 c.requires.1 c.requires.2 c.loop-sent.marks c.loop-sent.found_serials c.loop-sent.found_addresses c.loop-sent.sent c.loop-sent.skipped c.loop-sent.invariant c.loop-sent-test.true c.request_after-request.result c.request_after-request.ensures c.in-Found.dominant c.in-Found.serial c.in-Found.address (sym c.respond-heard.ensures.answer_is ∙ c.in-Found.is) c.respond-heard.new.marks c.respond-heard.ensures.table_is c.respond-heard.auto.marks

pub overflow_add-result : goal.overflow_add-result
overflow_add-result c = omega (arith, going_fill c.args.cap c.args.serials.now c.args.addresses.now c.args.marks.now c.args.found_serials.now c.args.found_addresses.now c.requires.0 c.requires.1 c.requires.2 c.loop-sent.marks c.loop-sent.found_serials c.loop-sent.found_addresses c.loop-sent.sent c.loop-sent.skipped c.loop-sent.invariant c.in-End.dominant (ended_few c.args.cap c.args.serials.now c.args.addresses.now c.args.marks.now c.args.found_serials.now c.args.found_addresses.now c.requires.0 c.requires.1 c.requires.2 c.loop-sent.marks c.loop-sent.found_serials c.loop-sent.found_addresses c.loop-sent.sent c.loop-sent.skipped c.loop-sent.invariant c.loop-sent-test.true c.request_after-request.result c.request_after-request.ensures c.in-End.dominant (sym c.respond-heard.ensures.answer_is ∙ c.in-End.is)))

pub returns-in-End : goal.returns-in-End
returns-in-End c = going_ended c.args.cap c.args.serials.now c.args.addresses.now c.args.marks.now c.args.found_serials.now c.args.found_addresses.now c.requires.0 c.requires.1 c.requires.2 c.loop-sent.marks c.loop-sent.found_serials c.loop-sent.found_addresses c.loop-sent.sent c.loop-sent.skipped c.loop-sent.invariant c.loop-sent-test.true c.request_after-request.result c.request_after-request.ensures (columns c.args.serials.now c.args.addresses.now c.respond-heard.new.marks) c.respond-heard.ensures.table_is c.in-End.dominant (sym c.respond-heard.ensures.answer_is ∙ c.in-End.is)

pub returns-in-Silence : goal.returns-in-Silence
returns-in-Silence c = going_silent c.args.cap c.args.serials.now c.args.addresses.now c.args.marks.now c.args.found_serials.now c.args.found_addresses.now c.requires.0 c.requires.1 c.requires.2 c.loop-sent.marks c.loop-sent.found_serials c.loop-sent.found_addresses c.loop-sent.sent c.loop-sent.skipped c.loop-sent.invariant c.loop-sent-test.true c.request_after-request.result c.request_after-request.ensures (columns c.args.serials.now c.args.addresses.now c.respond-heard.new.marks) c.respond-heard.ensures.table_is (sym c.respond-heard.ensures.answer_is ∙ c.in-Silence.is)

pub returns : goal.returns
returns c = going_capped c.args.cap c.args.serials.now c.args.addresses.now c.args.marks.now c.args.found_serials.now c.args.found_addresses.now c.requires.0 c.requires.1 c.requires.2 c.loop-sent.marks c.loop-sent.found_serials c.loop-sent.found_addresses c.loop-sent.sent c.loop-sent.skipped c.loop-sent.invariant c.loop-sent-test.false
