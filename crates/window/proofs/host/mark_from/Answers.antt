-- `host::mark_from` meets its contract: its test is the definition's.
use borrow.Author.Tests.{ne_eqb}
use Rattle.window.specs.Rules.Host.{no_mark}
use Rattle.window.proofs.host.mark_from.Goals as goal

pub returns-then-m-eq-NO_MARK : goal.returns-then-m-eq-NO_MARK
unfolding no_mark
returns-then-m-eq-NO_MARK c = rw c.if-m-eq-NO_MARK.true

pub returns : goal.returns
unfolding no_mark
returns c = rw (ne_eqb _ _ c.if-m-eq-NO_MARK.false)
