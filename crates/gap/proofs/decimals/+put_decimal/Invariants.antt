-- `put_decimal` writes the digits of n: one digit, or those of the tenth part and then the last. The measure is n.
use Rattle.gap.proofs.decimals.+put_decimal.Given as goal

abbrev pub decreases-put_decimal : goal.decreases-put_decimal
decreases-put_decimal l = l.n
