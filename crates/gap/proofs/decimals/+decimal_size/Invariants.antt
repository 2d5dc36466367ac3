-- `decimal_size` counts the digits of n: one, or those of the tenth part and one more. The measure is n.
use Rattle.gap.proofs.decimals.+decimal_size.Given as goal

abbrev pub decreases-decimal_size : goal.decreases-decimal_size
decreases-decimal_size l = l.n
