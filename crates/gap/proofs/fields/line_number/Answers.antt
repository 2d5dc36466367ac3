-- `fields::line_number` meets its contract: the newlines before the line are counted, and there are no more of them than bytes.
use native.Mathlib.Omega.{arith}
use Rattle.gap.proofs.Laws.LinePlaces.{lines_fit_lem, line-numbered}
use Rattle.gap.proofs.fields.line_number.Goals as goal

pub overflow_add-result : goal.overflow_add-result
overflow_add-result c = omega (arith, lines_fit_lem c.args.s.now c.args.at c.count_newlines.ensures)

pub returns : goal.returns
returns c = line-numbered _ _ c.count_newlines.ensures
