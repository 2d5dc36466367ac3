-- `places::stands`: the document's ends lie where nothing is left in the direction.
use Rattle.editor.proofs.Laws.PlaceScans.{test_known, end-left, end-right}
use Rattle.editor.proofs.places.stands.Goals as goal

pub returns-in-Left : goal.returns-in-Left
returns-in-Left c = test_known _ c.in-Document.is c.in-Left.is (end-left _ _ c.requires)

pub returns-in-Right : goal.returns-in-Right
returns-in-Right c = test_known _ c.in-Document.is c.in-Right.is (end-right _ _ c.requires)
