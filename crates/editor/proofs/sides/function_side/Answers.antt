-- `function_side`: the passage that was found is the key's own, and within the room; where there is none, everything stays.
use mathlib.Core.Path.{refl}
use Rattle.editor.proofs.Laws.SideEdits.{by-passage, within-room, not_carried}
use Rattle.editor.proofs.sides.function_side.Goals as goal

pub returns-in_default : goal.returns-in_default
returns-in_default c =
    by-passage c.requires _ _ _ (rw c.of.ensures.holds at c.place_passage.ensures) c.in_default.is
    (not_carried c.requires _ _ refl refl)

pub carry_side-requires : goal.carry_side-requires
carry_side-requires c = record { on_side = c.requires; steps_bound = within-room _ c.requires.gap _ _ (rw c.of.ensures.holds at c.place_passage.ensures) c.in-Some.is }

pub returns : goal.returns
returns c = by-passage c.requires _ _ _ (rw c.of.ensures.holds at c.place_passage.ensures) c.in-Some.is c.carry_side.ensures
