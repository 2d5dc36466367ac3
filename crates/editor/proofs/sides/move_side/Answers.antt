-- `move_side`: d moves land in the store, and the sizes moved by d are their lengths, whatever the recall text.
use mathlib.Core.Path.{refl}
use Rattle.editor.proofs.Laws.SideEdits.{room_of_lem, moved}
use Rattle.editor.proofs.sides.move_side.Goals as goal

pub move_cursor-requires : goal.move_cursor-requires
move_cursor-requires c = record { gap = c.requires.gap; d_bound = rw room_of_lem at c.requires.steps_bound }

pub returns : goal.returns
returns c = λ limit recall on. moved on _ refl c.went.ensures c.requires.steps_bound c.moved_by-m.ensures c.move_cursor.ensures
