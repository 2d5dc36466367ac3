-- `scan`: `find` answers the least distance that leads to a place.
use mathlib.Core.Path.{◌≡◌, ◌∙◌}
use mathlib.Core.Bool.{true, false}
use native.Mathlib.Omega.{arith}
use lib.ListN.{length}
use borrow.Author.Rules.{rules}
use borrow.Author.Tests.{tests}
use Rattle.std.proofs.lemmas.Iterator.{first_from_Range}
use Rattle.editor.proofs.Laws.Found.{found-nearest}
use Rattle.editor.proofs.Laws.PlaceScans.{place_away, distance-away}
use Rattle.editor.proofs.places.scan.Goals as goal

pub returns : goal.returns
returns c =
    let test = place_away c.args.place c.args.way c.args.t.now in
    λ other.
    found-nearest test (length c.args.t.now) 1 _ (omega arith) _
    (first_from_Range _ _ _ _ (λ d. test d ≡ true) (λ d. test d ≡ false) c.find.ensures.ran
    (λ x q k. search (rules, tests)) (λ x q k. search (rules, tests)))
    ∙ distance-away _ _ other _
