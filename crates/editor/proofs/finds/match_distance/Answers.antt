-- `editor::finds::match_distance` meets its contract: either search gives it; on the right the text behind the cursor is lent.
use Rattle.gap.specs.Wording.Views.{seen}
use Rattle.editor.proofs.finds.match_distance.Goals as goal

pub returns-in-Left : goal.returns-in-Left
unfolding seen
returns-in-Left c = rw c.in-Left.is c.find_left.ensures

pub returns-in-Right : goal.returns-in-Right
unfolding seen
returns-in-Right c = rw c.in-Right.is (c.find_right.ensures _)
