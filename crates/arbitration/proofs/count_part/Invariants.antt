-- `arbitration::count_part` meets its contract. The loop's invariant: the keys read are counted. Assumes nothing.
use Rattle.std.proofs.Common.{◌≡◌, take}
use Rattle.std.specs.List.{count_by}
use Rattle.arbitration.specs.Prefix.{starts}
use Rattle.arbitration.proofs.count_part.Given as goal

abbrev pub invariant-loop-key : goal.invariant-loop-key
invariant-loop-key l = l.count ≡ count_by (starts l.windows l.prefix) (take l.key-index l.keys)
