-- `lines_passed`, in each direction: the run that is counted lies beside the cursor.
use mathlib.Core.Path.{sym, ap, ◌∙◌}
use lib.Seq.{length-take-le}
use Rattle.gap.specs.Rules.Doc.{passed}
use Rattle.gap.specs.Rules.Lines.{newlines}
use Rattle.gap.specs.Wording.Views.{seen}
use Rattle.gap.proofs.Laws.Runs.{tail-lent}
use Rattle.editor.proofs.passages.lines_passed.Goals as goal

pub overflow_sub-from : goal.overflow_sub-from
unfolding seen
overflow_sub-from c = rw c.in-Left.is at c.requires

pub slice_bounds-count_newlines-end-in-Right : goal.slice_bounds-count_newlines-end-in-Right
unfolding seen
slice_bounds-count_newlines-end-in-Right c = sym (length-take-le _ _ (rw c.in-Right.is at c.requires))

pub returns-in-Left : goal.returns-in-Left
unfolding seen passed
returns-in-Left c = rw c.in-Left.is (c.count_newlines.ensures ∙ ap newlines (tail-lent _ c.args.d.l.now))

pub returns-in-Right : goal.returns-in-Right
unfolding seen passed
returns-in-Right c = rw c.in-Right.is c.count_newlines-in-Right.ensures
