-- `closing::close` meets its contract: the buffers' lengths first, and then by what the state holds.
-- Assumes nothing.
use Rattle.std.specs.Prelude.{Err}
use mathlib.Core.Path.{◌≡◌, sym, ap, ◌∙◌}
use mathlib.Core.Bool.{true, false}
use Prim.Native.Nat.{ℕ}
use native.Mathlib.Omega.{arith}
use lib.ListN.{length}
use Rattle.refusal.specs.Number.{output_short, run_ended, at_place}
use Rattle.exchange.specs.Exchange.{rooms}
use Rattle.listening.specs.Listening.{hand_room, heard, answers, closing}
use Rattle.closing.proofs.Closing.{judges_refused, judges_same, heard_is, answer_ends, answer_refuses, answer_accepts, closed_before, closed_now, closing_is, closing_state_is}
use borrow.Author.Rules.{rules}
use Rattle.closing.proofs.close.Goals as goal
use Rattle.closing.proofs.close.Goals.{Start}

-- the array of a state has its length
raw_size : (c : goal.Start) → length c.args.state.raw ≡ hand_room
raw_size c = search rules

pub returns-then-not-have_room : goal.returns-then-not-have_room
returns-then-not-have_room c =
    let s = c.args.state in
    let command = c.args.command.now in
    let first = c.args.reply_1.now in
    let second = c.args.reply_2.now in
    let short : rooms (length command) (length first) (length second) ≡ false = sym c.have_room.ensures ∙ c.if-not-have_room.true in
    record { judges = judges_refused (closing s (length command) (length first) (length second)) (at_place output_short 0) _ command first second (closing_is s (length command) (length first) (length second) false short) c.refused-answer.ensures; state_value = sym (closing_state_is s (length command) (length first) (length second) false short) }

pub returns-then-state-lt-NOTHING_DUE : goal.returns-then-state-lt-NOTHING_DUE
returns-then-state-lt-NOTHING_DUE c =
    let s = c.args.state in
    let command = c.args.command.now in
    let first = c.args.reply_1.now in
    let second = c.args.reply_2.now in
    let room : rooms (length command) (length first) (length second) ≡ true = sym c.have_room.ensures ∙ c.if-not-have_room.false in
    let end = heard_is s (raw_size (goal.at.returns-then-state-lt-NOTHING_DUE c).Start) c.heard-end.result c.heard-end.ensures in
    record { judges = judges_refused (closing s (length command) (length first) (length second)) (at_place run_ended (heard s)) _ command first second (closing_is s (length command) (length first) (length second) true room ∙ answer_ends s c.if-state-lt-NOTHING_DUE.true) (c.refused.ensures ∙ ap (λ (k : ℕ). Err (at_place run_ended k)) end); state_value = c.ended.ensures ∙ ap (λ (k : ℕ). answers s k run_ended k) end ∙ closed_now s c.if-state-lt-NOTHING_DUE.true ∙ sym (closing_state_is s (length command) (length first) (length second) true room) }

pub returns-then-state-ne0 : goal.returns-then-state-ne0
returns-then-state-ne0 c =
    let s = c.args.state in
    let command = c.args.command.now in
    let first = c.args.reply_1.now in
    let second = c.args.reply_2.now in
    let room : rooms (length command) (length first) (length second) ≡ true = sym c.have_room.ensures ∙ c.if-not-have_room.false in
    record { judges = judges_refused (closing s (length command) (length first) (length second)) (at_place s.number s.place) _ command first second (closing_is s (length command) (length first) (length second) true room ∙ answer_refuses s c.if-state-lt-NOTHING_DUE.false c.if-state-ne0.true) c.refused-then-state-ne0.ensures; state_value = closed_before s c.if-state-lt-NOTHING_DUE.false ∙ sym (closing_state_is s (length command) (length first) (length second) true room) }

pub accept-requires : goal.accept-requires
accept-requires c = sym c.have_room.ensures ∙ c.if-not-have_room.false

pub returns : goal.returns
returns c =
    let s = c.args.state in
    let command = c.args.command.now in
    let first = c.args.reply_1.now in
    let second = c.args.reply_2.now in
    let room : rooms (length command) (length first) (length second) ≡ true = sym c.have_room.ensures ∙ c.if-not-have_room.false in
    let none : s.number ≡ 0 = omega arith in
    record { judges = judges_same (closing_is s (length command) (length first) (length second) true room ∙ answer_accepts s c.if-state-lt-NOTHING_DUE.false none) c.accept.ensures; state_value = closed_before s c.if-state-lt-NOTHING_DUE.false ∙ sym (closing_state_is s (length command) (length first) (length second) true room) }
