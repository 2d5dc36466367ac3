-- `painter::line_start` meets its contract: each turn goes back over a line and its newline.
use Rattle.window.proofs.Laws.LineStarts.{Back}
use Rattle.window.proofs.painter.line_start.Given as goal

abbrev pub invariant-loop-i : goal.invariant-loop-i
invariant-loop-i l = Back l.t l.k l._i l.end
