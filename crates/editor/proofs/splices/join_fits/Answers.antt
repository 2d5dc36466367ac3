-- `join_fits` looks at the line on which the halves meet.
use Rattle.gap.specs.Wording.Views.{seen}
use Rattle.editor.proofs.Laws.Splices.{joined-fits}
use Rattle.editor.proofs.splices.join_fits.Goals as goal

pub returns : goal.returns
unfolding seen
returns c = joined-fits _ _ c.requires c.since_newline.ensures c.line_fits.ensures
