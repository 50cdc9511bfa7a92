-- `polls::packing::put_body` meets its contract. Assumes nothing.
use mathlib.Core.Path.{ap, ◌∙◌}
use Prim.Native.Nat.{ℕ, ◌+◌}
use native.Mathlib.Omega.{arith}
use Rattle.lists.proofs.Behind.{rest_long}
use Rattle.polls.proofs.PacketBody.{size_most, body_length, body_put}
use Rattle.polls.proofs.packing.put_body.Goals as goal

pub overflow_cast-head : goal.overflow_cast-head
overflow_cast-head c = omega (arith, c.wire_length-size.ensures, size_most c.args.sender c.args.flag c.args.count c.args.events c.args.slots.now c.requires.0)

pub put_events-requires : goal.put_events-requires
put_events-requires c = (c.requires.0, omega (arith, c.wire_length-size.ensures, size_most c.args.sender c.args.flag c.args.count c.args.events c.args.slots.now c.requires.0, rest_long c.put.new.out 6 (omega (arith, c.put.auto.out, c.requires.1)), c.put.auto.out, c.requires.1))

pub overflow_add-result : goal.overflow_add-result
overflow_add-result c = omega (arith, c.wire_length-size.ensures, size_most c.args.sender c.args.flag c.args.count c.args.events c.args.slots.now c.requires.0)

pub returns : goal.returns
returns c = (
  ap (λ (k : ℕ). 6 + k) c.wire_length-size.ensures ∙ body_length c.args.sender c.args.flag c.args.count c.args.events c.args.slots.now c.requires.0,
  body_put c.args.sender c.args.flag c.args.count c.args.events c.args.slots.now c.requires.0 c.args.out.now c.put.new.out c.put_events.new.out c.wire_length-size.result c.wire_length-size.ensures c.requires.1 c.put.ensures c.put_events.ensures,
  omega (arith, c.wire_length-size.ensures, size_most c.args.sender c.args.flag c.args.count c.args.events c.args.slots.now c.requires.0),
)
