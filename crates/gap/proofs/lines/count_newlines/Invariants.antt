-- `lines::count_newlines` meets its contract: the count is that of the blocks passed.
use mathlib.Core.Path.{◌≡◌}
use Rattle.std.specs.Slice.Iter.{chunks_rest, chunks_size}
use Rattle.gap.proofs.Laws.LineScans.{Counted}
use Rattle.gap.proofs.lines.count_newlines.Given as goal

abbrev pub invariant-loop-block : goal.invariant-loop-block
invariant-loop-block l = record { size : chunks_size l.block-iterator ≡ chunks_size l.initial.block-iterator; counted : Counted l.s l.count (chunks_rest l.block-iterator) }
