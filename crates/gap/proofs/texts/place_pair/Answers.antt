-- `place_pair` patches the gap at its two ends with the halves of the pair.
use mathlib.Core.Path.{ap, ◌∙◌}
use Rattle.gap.specs.Rules.Sequence.{patch}
use Rattle.gap.specs.Wording.Views.{seen}
use Rattle.gap.proofs.Laws.Stores.{gap-inserted}
use Rattle.gap.proofs.texts.place_pair.Goals as goal

pub returns : goal.returns
unfolding seen
returns c = c.copy_at-2.ensures ∙ ap (patch _ _) c.copy_at.ensures ∙ gap-inserted c.requires.gap (seen c.args.pair) c.requires.in_bounds
