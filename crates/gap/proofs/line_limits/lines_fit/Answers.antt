-- `lines_fit` meets its contract: the lines before the rest are within the limit, and the line that goes on there has room for so many bytes.
use native.Mathlib.Omega.{arith}
use Rattle.gap.proofs.Laws.Runs.{tail-lent}
use Rattle.gap.proofs.Laws.LineLimitScans.{fitting-over, fitting-none, fitting-more, fitting-all}
use Rattle.gap.proofs.line_limits.lines_fit.Goals as goal

pub returns-then-limit-n : goal.returns-then-limit-n
returns-then-limit-n c = fitting-over _ _ _ c.if-limit-n.true

pub returns-then-room-since : goal.returns-then-room-since
returns-then-room-since c = fitting-none _ _ _ c.loop-room.invariant (omega arith) c.since_newline-since.ensures c.if-room-since.true

pub loop-room-preserved : goal.loop-room-preserved
loop-room-preserved c =
    fitting-more _ _ _ c.loop-room.invariant (omega arith) c.since_newline-since.ensures c.if-room-since.false
    (tail-lent _ c.loop-room.rest.now)

pub returns : goal.returns
returns c = fitting-all _ _ _ c.loop-room.invariant c.loop-room-test.false
