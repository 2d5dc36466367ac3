-- `print::put_rows` writes the rows of a screen, one a turn: before turn i, the first i are written.
use Rattle.bench.proofs.Laws.Printed.{Shown}
use Rattle.bench.proofs.print.put_rows.Given as goal

abbrev pub invariant-loop : goal.invariant-loop
invariant-loop l = Shown l.h l.w l.screen l.initial.out l.at l.counter l.rest l.next l.out
