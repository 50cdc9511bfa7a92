-- `closing::accept` meets its contract: what is kept is put at the buffers' starts.
-- Assumes nothing.
use Rattle.std.specs.Prelude.{Ok}
use mathlib.Core.Path.{◌≡◌, sym, ap}
use Prim.Native.Nat.{◌+◌, ◌-◌, min}
use native.Mathlib.Omega.{arith}
use lib.ListN.{length, drop}
use lib.Seq.{length-take-le}
use Rattle.addresses.specs.declared.ExchangeKind.{ExchangeKind}
use Rattle.telegram.specs.Telegram.{command_room, reply_room}
use Rattle.exchange.specs.View.{accepted_as}
use Rattle.listening.specs.Listening.{first_place, second_place, kept_room}
use Rattle.closing.proofs.Closing.{rooms_had, put_kept}
use borrow.Author.Rules.{rules}
use Rattle.closing.proofs.accept.Goals as goal
use Rattle.closing.proofs.accept.Goals.{Start}

-- the array of a state has its length
kept_size : (c : goal.Start) → length c.args.state.kept ≡ kept_room
kept_size c = search rules

pub slice_bounds-kept-end : goal.slice_bounds-kept-end
slice_bounds-kept-end c = omega (arith, c.smaller-end.ensures, kept_size (goal.at.slice_bounds-kept-end c).Start)

pub slice_bounds-put-end : goal.slice_bounds-put-end
slice_bounds-put-end c = sym (length-take-le c.smaller-end.result c.args.state.kept (omega (arith, c.smaller-end.ensures, kept_size (goal.at.slice_bounds-put-end c).Start)))

pub slice_bounds-put-end-2 : goal.slice_bounds-put-end-2
slice_bounds-put-end-2 c = omega (arith, c.smaller-first.ensures, kept_size (goal.at.slice_bounds-put-end-2 c).Start)

pub slice_bounds-put-end-3 : goal.slice_bounds-put-end-3
slice_bounds-put-end-3 c = omega (arith, c.smaller-second.ensures, kept_size (goal.at.slice_bounds-put-end-3 c).Start)

pub returns : goal.returns
returns c =
    let s = c.args.state in
    let command = c.args.command.now in
    let first = c.args.reply_1.now in
    let second = c.args.reply_2.now in
    let had = rooms_had (length command) (length first) (length second) c.requires in
    let n₁ = c.smaller-first.result in
    let n₂ = c.smaller-second.result in
    let is₁ : first_place + n₁ - first_place ≡ min s.reply_1_length reply_room = omega (arith, c.smaller-first.ensures) in
    let is₂ : second_place + n₂ - second_place ≡ min s.reply_2_length reply_room = omega (arith, c.smaller-second.ensures) in
    record {
      result = ap (λ (k : ExchangeKind). Ok (accepted_as k s.command_attempts s.reply_attempts s.start)) c.kind.ensures;
      command_buffer = put_kept s.kept command _ s.command_length command_room c.smaller-end.result c.smaller-end.ensures had.0 c.put.ensures;
      first_buffer = put_kept (drop first_place s.kept) first _ s.reply_1_length reply_room (first_place + n₁ - first_place) is₁ had.1 c.put-2.ensures;
      second_buffer = put_kept (drop second_place s.kept) second _ s.reply_2_length reply_room (second_place + n₂ - second_place) is₂ had.2 c.put-3.ensures;
    }
