-- `lines_fit` meets its contract: the lines before the rest are within the limit, and the line that goes on there has room for so many bytes.
use lib.ListN.{length}
use Rattle.gap.proofs.Laws.LineLimitScans.{Fitting}
use Rattle.gap.proofs.line_limits.lines_fit.Given as goal

abbrev pub invariant-loop-room : goal.invariant-loop-room
invariant-loop-room l = Fitting l.limit l.n l.s l.room l.rest

abbrev pub decreases-loop-room : goal.decreases-loop-room
decreases-loop-room l = length l.rest
