-- `lines::back_without` meets its contract: there is no newline from place i on, and each block without one comes in front.
use mathlib.Core.List.{◌++◌}
use Rattle.std.specs.Slice.Exact.{rchunks_exact_rest, rchunks_exact_remainder}
use Rattle.gap.proofs.Laws.LineScans.{Backward}
use Rattle.gap.proofs.lines.back_without.Given as goal

abbrev pub invariant-loop-block : goal.invariant-loop-block
invariant-loop-block l = Backward l.s l.i (rchunks_exact_remainder l.block-iterator ++ rchunks_exact_rest l.block-iterator)
