-- `indents::leading_spaces` meets its contract: the spaces taken from the front are counted.
use mathlib.Core.Path.{◌∙◌}
use borrow.Author.Rules.{rules}
use borrow.Author.Tests.{tests}
use Rattle.std.proofs.lemmas.Iterator.{YieldsList-from_slice}
use Rattle.std.proofs.lemmas.Iterator.Search.{YieldsList-from_take_while}
use Rattle.std.proofs.lemmas.Iterator.Consumers.{count_from_yields_List, YieldsList-at}
use lib.Dec.{eqb}
use Rattle.gap.specs.Rules.Indents.{space}
use Rattle.gap.proofs.Laws.Indents.{leading-taken}
use Rattle.gap.proofs.indents.leading_spaces.Goals as goal

pub returns : goal.returns
returns c =
    count_from_yields_List _ _ c.count.ensures.ran
    (YieldsList-from_take_while _ (λ b. eqb b space) (YieldsList-at c.take_while.ensures.source (YieldsList-from_slice _ c.iter.ensures.rest))
    c.take_while.ensures.closure c.take_while.ensures.done (λ x b q k. search (rules, tests)))
    ∙ leading-taken c.args.s.now
