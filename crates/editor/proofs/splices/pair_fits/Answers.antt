-- `pair_fits` looks at four runs: what stands before the cursor, the two halves, and what stands behind it.
use Rattle.gap.specs.Wording.Views.{seen}
use Rattle.editor.proofs.Laws.Splices.{pair_fits}
use Rattle.editor.proofs.splices.pair_fits.Goals as goal

pub runs_fit-requires : goal.runs_fit-requires
unfolding seen
runs_fit-requires c = record { front_value = (c.requires.halves_fit.before, c.requires.halves_fit.behind); y_len_bound = c.requires.lengths }

pub returns : goal.returns
unfolding seen
returns c = pair_fits _ _ _ c.runs_fit.ensures
