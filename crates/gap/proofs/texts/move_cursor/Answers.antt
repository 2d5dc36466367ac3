-- `move_cursor` carries the bytes that d moves cross over to the other side of the gap.
use Rattle.gap.specs.declared.Direction.TheVariants.{Left, Right}
use Rattle.gap.proofs.Laws.Moves.{moves}
use Rattle.gap.proofs.texts.move_cursor.Goals as goal

pub returns-in-Left : goal.returns-in-Left
returns-in-Left c = rw c.in-Left.is (moves Left (c.requires.gap, rw c.in-Left.is at c.requires.d_bound) c.shift.ensures)

pub returns-in-Right : goal.returns-in-Right
returns-in-Right c = rw c.in-Right.is (moves Right (c.requires.gap, rw c.in-Right.is at c.requires.d_bound) c.shift-in-Right.ensures)
