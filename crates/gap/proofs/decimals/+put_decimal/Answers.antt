-- `put_decimal` writes the digits of n: one digit, or those of the tenth part and then the last.
use native.Mathlib.Omega.{arith}
use Rattle.gap.proofs.Laws.Decimals.{decimal_digit, decimal_step, decimal-longer, decimal-some}
use Rattle.gap.proofs.Laws.Writers.{wrote-length, then}
use Rattle.gap.proofs.decimals.+put_decimal.Goals as goal

pub put_digit-requires : goal.put_digit-requires
put_digit-requires t c = (c.if-n-lt10.true, omega (arith, c.requires, decimal-some c.args.n))

pub put_decimal-last-requires : goal.put_decimal-last-requires
put_decimal-last-requires t c = (omega arith, omega (arith, c.requires, decimal-longer c.args.n c.if-n-lt10.false))

pub put_digit-requires-2 : goal.put_digit-requires-2
put_digit-requires-2 t c =
    let written = c.put_decimal-last.ensures in
    (omega arith, omega (arith, c.requires, decimal-longer c.args.n c.if-n-lt10.false, written.place, wrote-length written))

pub returns-then-n-lt10 : goal.returns-then-n-lt10
returns-then-n-lt10 t c = rw (decimal_digit _ c.if-n-lt10.true) c.put_digit.ensures

pub returns : goal.returns
returns t c = rw (decimal_step _ c.if-n-lt10.false) (then c.put_decimal-last.ensures c.put_digit-2.ensures)
