-- `editor::finds::first_match` meets its contract: `find` answers the least distance at which a match begins.
use mathlib.Core.Path.{◌≡◌}
use mathlib.Core.Bool.{true, false}
use Prim.Native.Nat.{◌-◌}
use native.Mathlib.Omega.{arith}
use borrow.Author.Rules.{rules}
use borrow.Author.Tests.{tests}
use Rattle.std.proofs.lemmas.Iterator.{first_from_Range}
use Rattle.editor.specs.Wording.Searches.{match_away}
use Rattle.editor.proofs.Laws.Found.{found-nearest}
use Rattle.editor.proofs.finds.first_match.Goals as goal

pub returns : goal.returns
returns c =
    let test = match_away c.args.way c.args.pattern.now c.args.t.now in
    found-nearest test (c.args.to - c.args.from) c.args.from _ (omega (arith, c.requires.reach.order)) _
    (first_from_Range _ _ _ _ (λ d. test d ≡ true) (λ d. test d ≡ false) c.find.ensures.ran
    (λ x q k. search (rules, tests)) (λ x q k. search (rules, tests)))
