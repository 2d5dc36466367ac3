-- `convertible_stores` is the definition's test.
use Rattle.editor.specs.Rules.Bytes.{quarter}
use Rattle.editor.specs.Rules.Conversion.{old_quarter}
use Rattle.window.specs.Rules.Conversion.{convertible}
use Rattle.window.proofs.conversion.convertible_stores.Goals as goal

pub returns : goal.returns
unfolding convertible quarter old_quarter
returns c = rw (c.sized_stores.ensures, c.rows_and_columns.ensures)
