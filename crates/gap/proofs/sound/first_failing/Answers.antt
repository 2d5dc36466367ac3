-- `sound::first_failing` meets its contract: where all bytes pass there is none, and else the search decides.
use mathlib.Core.Bool.{not}
use borrow.Author.Rules.{rules}
use borrow.Author.Tests.{tests}
use Rattle.std.proofs.lemmas.Iterator.{YieldsList-from_slice}
use Rattle.std.proofs.lemmas.Iterator.Search.{position_from_yields_List}
use Rattle.gap.proofs.Laws.Scans.{first-failing, every-nowhere}
use Rattle.gap.proofs.sound.first_failing.Goals as goal

pub returns-then-all_pass : goal.returns-then-all_pass
returns-then-all_pass g c = λ passes says. every-nowhere passes _ (c.all_pass.ensures passes (λ b answer h. says b answer h)) c.if-all_pass.true

pub returns : goal.returns
returns g c = λ passes says.
    first-failing passes c.args.s.now
    (position_from_yields_List (λ b. not (passes b)) _ _ c.position.result c.position.ensures.ran
    (YieldsList-from_slice c.args.s.now c.iter.ensures.rest) (λ x b q k. search (rules, tests, says)))
