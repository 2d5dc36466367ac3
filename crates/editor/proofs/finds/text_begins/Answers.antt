-- `editor::finds::text_begins` meets its contract: what follows the place is one run or two.
use mathlib.Core.Path.{ap, ◌∙◌}
use Rattle.gap.specs.Rules.Sequence.{begins}
use Rattle.gap.proofs.Laws.Layout.{drop-behind, drop-across}
use Rattle.gap.specs.Wording.Views.{seen}
use Rattle.editor.proofs.finds.text_begins.Goals as goal

pub returns-then-l-at : goal.returns-then-l-at
unfolding seen
returns-then-l-at c = c.run_begins.ensures ∙ ap (begins _) (drop-behind _ _ c.if-l-at.true)

pub returns : goal.returns
unfolding seen
returns c = c.runs_begin.ensures ∙ ap (begins _) (drop-across _ _ c.if-l-at.false)
