-- `lines::newlines_short` meets its contract: the count is that of the bytes passed, and there are no more newlines than bytes.
use lib.ListN.{drop}
use Rattle.gap.proofs.Laws.LineScans.{Counted}
use Rattle.gap.proofs.lines.newlines_short.Given as goal

abbrev pub invariant-loop-b : goal.invariant-loop-b
invariant-loop-b l = Counted l.s l.count (drop l.b-index l.s)
