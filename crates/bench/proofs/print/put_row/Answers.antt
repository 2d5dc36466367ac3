-- `print::put_row` writes a row: its word, its cells and a newline, one behind the other.
use Rattle.gap.specs.Rules.Strings.{bytes}
use Rattle.bench.proofs.Laws.Printed.{row_wrote}
use Rattle.bench.proofs.print.put_row.Goals as goal

pub returns : goal.returns
unfolding bytes
returns c = row_wrote c.put-cells_at.ensures c.put-end.ensures c.put.ensures
