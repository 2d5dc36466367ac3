-- `value_of` gives what the digits are worth: before each turn, n is the number that the digits passed write.
use Rattle.gap.proofs.Laws.Decimals.{Valued}
use Rattle.gap.proofs.decimals.value_of.Given as goal

abbrev pub invariant-loop-b : goal.invariant-loop-b
invariant-loop-b l = Valued l.s l.n l.b-index
