-- `long_line` meets its contract: where the lines fit there is none, and else no longer line begins before place i, where a line begins.
use native.Mathlib.Omega.{arith}
use Rattle.gap.proofs.Laws.LinePlaces.{line-starts}
use Rattle.gap.proofs.Laws.LongLines.{lines-fitting, lines-found, lines_more, lines-last, lines_none}
use Rattle.gap.proofs.line_limits.long_line.Goals as goal

pub returns-then-lines_fit : goal.returns-then-lines_fit
returns-then-lines_fit c = lines-fitting _ _ c.lines_fit.ensures c.if-lines_fit.true

pub overflow_sub-end : goal.overflow_sub-end
overflow_sub-end c = line-starts _ _ c.end_at-end.ensures

pub returns-then-limit-end : goal.returns-then-limit-end
returns-then-limit-end c = lines-found _ _ c.loop-i.invariant c.loop-i-test.true c.end_at-end.ensures c.if-limit-end.true

pub returns-then-s-end : goal.returns-then-s-end
returns-then-s-end c = lines-last _ _ c.loop-i.invariant c.loop-i-test.true c.end_at-end.ensures c.if-limit-end.false c.if-s-end.true

pub loop-i-smaller : goal.loop-i-smaller
loop-i-smaller c = omega (arith, line-starts _ _ c.end_at-end.ensures)

pub loop-i-preserved : goal.loop-i-preserved
loop-i-preserved c = lines_more _ _ c.loop-i.invariant c.loop-i-test.true c.end_at-end.ensures c.if-limit-end.false c.if-s-end.false

pub returns : goal.returns
returns c = lines_none _ _ c.loop-i.invariant c.loop-i-test.false
