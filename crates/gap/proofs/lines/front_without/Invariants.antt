-- `lines::front_without` meets its contract: there is no newline from place `at` up to place i, and each block without one comes behind.
use Rattle.std.specs.Slice.Iter.{chunks_exact_rest}
use Rattle.gap.proofs.Laws.LineScans.{Onward}
use Rattle.gap.proofs.lines.front_without.Given as goal

abbrev pub invariant-loop-block : goal.invariant-loop-block
invariant-loop-block l = Onward l.s l.at l.i (chunks_exact_rest l.block-iterator)
