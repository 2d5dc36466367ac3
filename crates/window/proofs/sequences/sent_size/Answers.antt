-- `sent_size` adds the sizes of the named rows and of the cursor's spot.
use native.Mathlib.Omega.{arith}
use borrow.Author.Rules.{rules}
use Rattle.window.proofs.Laws.Sequences.{spot-short, named_small, sent-sum}
use Rattle.window.proofs.sequences.sent_size.Goals as goal

pub overflow_add-result : goal.overflow_add-result
overflow_add-result c =
    let rows = named_small c.args.w c.args.u.first c.args.u.last c.requires.0 c.requires.1 c.requires.2 in
    let spot = spot-short c.args.u.row c.sent_column.result (search rules) (search rules) in
    record { fits = omega (arith, rows, spot, c.rows_size.ensures, c.spot_size.ensures) }

pub returns : goal.returns
returns c = sent-sum _ _ _ _ _ c.rows_size.ensures c.spot_size.ensures c.sent_column.ensures
