-- `arbitration::how_many` meets its contract. Assumes nothing.
use Rattle.std.proofs.Common.{◌≡◌, length, rules, arith}
use Rattle.std.proofs.lemmas.List.Sums.{count_by-le-length}
use Rattle.std.specs.Slice.Iter.{chunks_rest}
use Rattle.lists.proofs.Std.{how_many_is}
use Rattle.arbitration.specs.Prefix.{starts}
use Rattle.arbitration.proofs.how_many.Goals as goal

pub returns : goal.returns
returns c =
    let test = starts c.args.windows c.args.prefix in
    let rest = chunks_rest c.loop-part.part-iterator in
    let ended : length rest ≡ 0 = search rules in
    omega (arith, c.loop-part.invariant.counted, count_by-le-length test rest, how_many_is test c.args.keys.now)
