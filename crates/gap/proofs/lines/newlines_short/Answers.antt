-- `lines::newlines_short` meets its contract: the count is that of the bytes passed, and there are no more newlines than bytes.
use native.Mathlib.Omega.{arith}
use lib.ListN.{length-drop}
use Rattle.gap.proofs.Laws.LineScans.{counted-fit, counted-byte, counted-all}
use Rattle.gap.proofs.lines.newlines_short.Goals as goal

pub overflow_add-count : goal.overflow_add-count
overflow_add-count c = omega (arith, c.from-count.ensures, counted-fit (counted-byte c.loop-b.invariant c.loop-b-test.true))

pub loop-b-preserved : goal.loop-b-preserved
loop-b-preserved c = rw c.from-count.ensures (counted-byte c.loop-b.invariant c.loop-b-test.true)

pub returns : goal.returns
returns c = counted-all _ c.loop-b.invariant (omega (arith, length-drop c.loop-b.b-index c.args.s.now))
