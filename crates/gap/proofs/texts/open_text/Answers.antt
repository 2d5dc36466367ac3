-- `open_text`: once the tail is cleared, the store is a gap store with the text left of the cursor.
use mathlib.Core.Path.{◌∙◌}
use Rattle.gap.proofs.Laws.Moves.{opened-gap, opened-text}
use Rattle.gap.proofs.texts.open_text.Goals as goal

pub move_cursor-requires-clause-gap : goal.move_cursor-requires-clause-gap
move_cursor-requires-clause-gap c = opened-gap _ _ _ c.requires c.clear_from.ensures

pub returns : goal.returns
returns c = c.move_cursor.ensures ∙ opened-text _ _ _ c.requires c.clear_from.ensures
