-- `print::put_entries` writes entries one behind the other: before entry i, those before it are written.
use Rattle.bench.proofs.Laws.Printed.{Entered}
use Rattle.bench.proofs.print.put_entries.Given as goal

abbrev pub invariant-loop-word : goal.invariant-loop-word
invariant-loop-word l = Entered l.entries l.initial.out l.at l.word-index l.next l.out
