-- `is_number`: a length that is none of a number decides by itself, and for any other the bytes do.
use Rattle.gap.proofs.Laws.Decimals.{number_short, number-long, number-tests}
use Rattle.gap.proofs.decimals.is_number.Goals as goal

pub returns-then-s-lt1 : goal.returns-then-s-lt1
returns-then-s-lt1 c = number_short _ _ c.if-s-lt1.true

pub returns-then-most-s : goal.returns-then-most-s
returns-then-most-s c = number-long _ _ c.if-most-s.true

pub returns : goal.returns
returns c = number-tests _ _ c.if-s-lt1.false c.if-most-s.false c.all_digits.ensures
