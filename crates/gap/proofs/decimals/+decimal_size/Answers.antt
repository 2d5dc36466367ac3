-- `decimal_size` counts the digits of n: one, or those of the tenth part and one more.
use mathlib.Core.Path.{sym, ap, ◌∙◌}
use Prim.Native.Nat.{◌+◌, ◌/◌}
use native.Mathlib.Omega.{arith}
use borrow.Author.Rules.{rules}
use Rattle.gap.proofs.Laws.Decimals.{decimal_digit, decimal-longer, decimal-short}
use Rattle.gap.proofs.decimals.+decimal_size.Goals as goal

pub returns-then-n-lt10 : goal.returns-then-n-lt10
returns-then-n-lt10 t c = rw (decimal_digit _ c.if-n-lt10.true)

pub overflow_add-result : goal.overflow_add-result
overflow_add-result t c = omega (arith, c.decimal_size.ensures, decimal-short (c.args.n / 10) (search rules))

pub returns : goal.returns
returns t c = ap (λ n. n + 1) c.decimal_size.ensures ∙ sym (decimal-longer _ c.if-n-lt10.false)
