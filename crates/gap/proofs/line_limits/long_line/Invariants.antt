-- `long_line` meets its contract: where the lines fit there is none, and else no longer line begins before place i, where a line begins.
use Prim.Native.Nat.{◌-◌}
use lib.ListN.{length}
use Rattle.gap.proofs.Laws.LongLines.{LinesPassed}
use Rattle.gap.proofs.line_limits.long_line.Given as goal

abbrev pub invariant-loop-i : goal.invariant-loop-i
invariant-loop-i l = LinesPassed l.limit l.s l.i

abbrev pub decreases-loop-i : goal.decreases-loop-i
decreases-loop-i l = length l.s - l.i
