-- `search` is a move on the document's side by the distance that was found; where none was found, the move that only rings.
use Rattle.editor.specs.Wording.Promise.{editor_done}
use mathlib.Core.Path.{refl, ap}
use Rattle.editor.specs.Words.{Move, Main}
use Rattle.editor.specs.Rules.Bytes.{quarter}
use Rattle.editor.proofs.Laws.SideEdits.{not_carried, within-room}
use Rattle.editor.proofs.Laws.Replies.{on-side}
use Rattle.editor.proofs.Laws.FindReplace.{search-done}
use Rattle.editor.proofs.searches.search.Goals as goal

pub returns-in_default : goal.returns-in_default
unfolding quarter
returns-in_default c =
    λ recall held sound. search-done quarter _ _ sound _ _ _ (rw c.of-document.ensures.holds at c.match_passage.ensures) c.in_default.is _ _ _ _ refl
    (not_carried (on-side quarter _ _ sound Main) Move _ refl refl)

pub move_side-t-requires : goal.move_side-t-requires
move_side-t-requires c =
    record { gap = c.requires.document; steps_bound = within-room c.args.n.main c.requires.document _ _ (rw c.of-document.ensures.holds at c.match_passage.ensures) c.in-Some.is }

pub returns : goal.returns
unfolding quarter
returns c =
    λ recall held sound. search-done quarter _ _ sound _ _ _ (rw c.of-document.ensures.holds at c.match_passage.ensures) c.in-Some.is _ _ _ _ (ap editor_done c.lifted.ensures)
    (c.move_side-t.ensures _ _ (on-side quarter _ _ sound Main))
