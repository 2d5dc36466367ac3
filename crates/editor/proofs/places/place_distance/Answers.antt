-- `place_distance`: it is a search through the text that lies in the direction, and its end is all of it away.
use mathlib.Core.Path.{refl, ◌∙◌}
use Rattle.editor.specs.Words.{Document}
use Rattle.editor.proofs.Laws.PlaceScans.{distance-known, distance-whole, found-toward}
use Rattle.editor.proofs.places.place_distance.Goals as goal

pub returns-in-Document : goal.returns-in-Document
returns-in-Document c =
    found-toward _ _ _
    (λ other. distance-known _ c.in-Document.is refl
    (rw c.toward-t.ensures at (c.whole.ensures ∙ distance-whole Document c.toward-t.result.now other c.args.way)))

pub returns-in_default : goal.returns-in_default
returns-in_default c = found-toward _ _ _ (rw c.toward-t.ensures at c.scan.ensures)
