-- `clear_from` clears the part that reaches to the end of the store.
use mathlib.Core.Path.{◌∙◌}
use Rattle.gap.proofs.Laws.Runs.{cleared-from}
use Rattle.gap.proofs.runs.clear_from.Goals as goal

pub returns : goal.returns
returns c = c.vacate.ensures ∙ cleared-from _ _ c.requires
