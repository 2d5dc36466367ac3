-- `hand_over` has the pair store hold the left text, and copies the right one behind it.
use mathlib.Core.Path.{◌∙◌}
use Rattle.gap.specs.Wording.Views.{seen}
use Rattle.gap.proofs.Laws.Stores.{hands-over}
use Rattle.gap.proofs.texts.hand_over.Goals as goal

pub returns : goal.returns
unfolding seen
returns c = c.copy_at.ensures ∙ hands-over (seen c.args.d) c.args.pair.now _ c.requires c.hold.ensures
