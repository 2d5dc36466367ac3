-- `editor::finds::match_across` meets its contract: `find` answers the least distance that leads to a match.
use mathlib.Core.Path.{◌≡◌}
use mathlib.Core.Bool.{true, false}
use native.Mathlib.Omega.{arith}
use lib.ListN.{length}
use borrow.Author.Rules.{rules}
use borrow.Author.Tests.{tests}
use Rattle.std.proofs.lemmas.Iterator.{first_from_Range}
use Rattle.gap.specs.Rules.Doc.{content}
use Rattle.gap.specs.Wording.Views.{seen}
use Rattle.editor.specs.Wording.Searches.{match_left}
use Rattle.editor.proofs.Laws.Found.{found-nearest}
use Rattle.editor.proofs.finds.match_across.Goals as goal

pub returns : goal.returns
returns c =
    let test = match_left c.args.pattern.now (length c.args.d.l.now) (content (seen c.args.d)) in
    found-nearest test c.args.n 1 _ (omega arith) _
    (first_from_Range _ _ _ _ (λ far. test far ≡ true) (λ far. test far ≡ false) c.find.ensures.ran
    (λ x q k. search (rules, tests)) (λ x q k. search (rules, tests)))
