-- `painter::line_start` meets its contract: each turn goes back over a line and its newline.
use Rattle.window.proofs.Laws.LineStarts.{back_inside, back-room, back_more, back-all}
use Rattle.window.proofs.painter.line_start.Goals as goal

pub overflow_sub-end : goal.overflow_sub-end
overflow_sub-end c = back_inside c.loop-i.invariant c.since_newline.ensures

pub overflow_sub-end-in-loop-i : goal.overflow_sub-end-in-loop-i
overflow_sub-end-in-loop-i c = back-room c.loop-i.invariant c.since_newline.ensures

pub loop-i-preserved : goal.loop-i-preserved
loop-i-preserved c = back_more c.loop-i.invariant c.since_newline.ensures c.loop-i-test.true

pub overflow_sub-result : goal.overflow_sub-result
overflow_sub-result c = back_inside c.loop-i.invariant c.since_newline-2.ensures

pub returns : goal.returns
returns c = back-all c.loop-i.invariant c.since_newline-2.ensures c.loop-i-test.false
