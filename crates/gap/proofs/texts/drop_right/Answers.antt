-- `drop_right` clears the bytes, as so many deletions do, and those are one splice.
use mathlib.Core.Path.{ap, ◌∙◌}
use Rattle.gap.specs.declared.Direction.TheVariants.{Right}
use Rattle.gap.specs.Rules.Layout.{gapped}
use Rattle.gap.proofs.Laws.Doc.{deletions-right}
use Rattle.gap.proofs.Laws.Stores.{deletes}
use Rattle.gap.proofs.texts.drop_right.Goals as goal

pub returns : goal.returns
returns c = c.vacate.ensures ∙ deletes c.requires.gap Right _ c.requires.d_le_r ∙ ap (gapped _) (deletions-right _ _)
