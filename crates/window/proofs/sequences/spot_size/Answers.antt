-- `spot_size` counts the digits of two machine words, at most 20 each, and four bytes more.
use native.Mathlib.Omega.{arith}
use borrow.Author.Rules.{rules}
use Rattle.gap.proofs.Laws.Decimals.{decimal-short}
use Rattle.window.proofs.Laws.Sequences.{length-spot}
use Rattle.window.proofs.sequences.spot_size.Goals as goal

pub overflow_add-result : goal.overflow_add-result
overflow_add-result c = record { fits = omega (arith, decimal-short c.args.row (search rules)) }

pub overflow_add-result-2 : goal.overflow_add-result-2
overflow_add-result-2 c = record { fits = omega (arith, decimal-short c.args.row (search rules), decimal-short c.args.column (search rules)) }

pub returns : goal.returns
returns c = omega (arith, length-spot c.args.row c.args.column)
