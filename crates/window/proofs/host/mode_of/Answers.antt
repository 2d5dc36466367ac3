-- `host::mode_of` meets its contract: its test is the definition's.
use borrow.Author.Tests.{ne_eqb}
use Rattle.window.proofs.host.mode_of.Goals as goal

pub returns-then-m-eq1 : goal.returns-then-m-eq1
returns-then-m-eq1 c = rw c.if-m-eq1.true

pub returns : goal.returns
returns c = rw (ne_eqb _ _ c.if-m-eq1.false)
