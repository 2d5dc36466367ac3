-- `carry_side`, for each action by the function that does it.
use Rattle.editor.proofs.sides.carry_side.Goals as goal

pub returns-in-Move : goal.returns-in-Move
returns-in-Move c = rw c.in-Move.is (c.move_side.ensures _ _ c.requires.on_side)

pub returns-in-Delete : goal.returns-in-Delete
returns-in-Delete c = rw c.in-Delete.is c.delete_side.ensures
