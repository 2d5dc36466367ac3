-- `value_of` gives what the digits are worth: before each turn, n is the number that the digits passed write.
use native.Mathlib.Omega.{arith}
use Rattle.gap.proofs.Laws.Decimals.{valued-digit, valued-more, valued_fits, valued-all}
use Rattle.gap.proofs.decimals.value_of.Goals as goal

pub overflow_mul-n : goal.overflow_mul-n
overflow_mul-n c = omega (arith, valued_fits c.loop-b.invariant c.loop-b-test.true)

pub overflow_sub-b : goal.overflow_sub-b
overflow_sub-b c = omega (arith, valued-digit c.loop-b.invariant c.loop-b-test.true)

pub overflow_add-n : goal.overflow_add-n
overflow_add-n c = omega (arith, c.from.ensures, valued_fits c.loop-b.invariant c.loop-b-test.true)

pub loop-b-preserved : goal.loop-b-preserved
loop-b-preserved c = rw c.from.ensures (valued-more c.loop-b.invariant c.loop-b-test.true)

pub returns : goal.returns
returns c = valued-all c.loop-b.invariant c.loop-b-test.false
