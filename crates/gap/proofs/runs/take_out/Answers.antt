-- `take_out` lends the part to `hold` and then clears it.
use mathlib.Core.Path.{◌∙◌}
use Rattle.gap.proofs.Laws.Runs.{part_held}
use Rattle.gap.proofs.runs.take_out.Goals as goal

pub returns-clause-pair_after : goal.returns-clause-pair_after
returns-clause-pair_after c = c.hold.ensures ∙ part_held _ _ _ c.requires.0 _
