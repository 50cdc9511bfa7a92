-- `arbitration::how_many` meets its contract. The loop's invariant: the keys of the parts so far are counted, and those left are to be.
-- Assumes nothing.
use Rattle.std.proofs.Common.{◌≡◌, ◌+◌}
use Rattle.std.specs.List.{count_by}
use Rattle.std.specs.Slice.Iter.{chunks_rest, chunks_size}
use Rattle.arbitration.specs.Prefix.{starts}
use Rattle.arbitration.proofs.how_many.Given as goal

abbrev pub invariant-loop-part : goal.invariant-loop-part
invariant-loop-part l = record {
  size : chunks_size l.part-iterator ≡ 65536;
  counted : l.count + count_by (starts l.windows l.prefix) (chunks_rest l.part-iterator) ≡ count_by (starts l.windows l.prefix) l.keys;
}
