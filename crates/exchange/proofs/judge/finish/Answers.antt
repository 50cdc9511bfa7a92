-- `exchange::judge::finish` meets its contract: the buffers are filled with the bytes of the exchange.
-- Assumes nothing.
use Rattle.std.specs.Prelude.{Ok}
use mathlib.Core.Path.{refl}
use mathlib.Core.Bool.{false}
use native.Mathlib.Omega.{arith}
use Rattle.escapes.specs.Logical.{logicals_at}
use Rattle.exchange.specs.Inner.{replies_of}
use Rattle.exchange.proofs.Buffers.{accepts}
use Rattle.exchange.proofs.judge.finish.Goals as goal

pub copy_logical-requires-3 : goal.copy_logical-requires-3
copy_logical-requires-3 c = ((false, c.requires.2), omega (arith, c.requires.2.room, c.requires.5))

pub returns : goal.returns
returns c =
    let run = c.args.run.now in
    let at = c.args.at in
    let bytes = logicals_at run c.args.len c.args.start in
    let e = c.args.e in
    accepts (replies_of (Ok e) run at bytes) c.args.command.now c.args.reply_1.now c.args.reply_2.now bytes run at e _ _ _ refl
    c.copy_logical.ensures c.copy_logical-2.ensures c.copy_logical-3.ensures
