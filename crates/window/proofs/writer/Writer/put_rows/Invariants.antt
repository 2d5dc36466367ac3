-- `Writer::put_rows` writes the named rows, one a turn: before turn i, the first i are written.
use Rattle.window.proofs.Laws.Sequences.{RowsSent}
use Rattle.window.proofs.writer.Writer.put_rows.Given as goal

abbrev pub invariant-loop-i : goal.invariant-loop-i
invariant-loop-i l = RowsSent l.w l.fn.u.first l.i-end l.screen l.initial.self l.i l.self
