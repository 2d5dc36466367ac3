-- `fields::put_entry` writes an entry: its word, its number and a newline, one behind the other; a number has at most 20 digits.
use native.Mathlib.Omega.{arith}
use borrow.Author.Rules.{rules}
use Rattle.gap.proofs.Laws.Writers.{then}
use Rattle.gap.proofs.Laws.Decimals.{decimal-short}
use Rattle.gap.specs.Rules.Fields.{entry}
use Rattle.gap.proofs.fields.put_entry.Goals as goal

pub put_decimal-end-requires : goal.put_decimal-end-requires
put_decimal-end-requires c = omega (arith, decimal-short c.args.n (search rules))

pub put-requires : goal.put-requires
put-requires c = omega (arith, decimal-short c.args.n (search rules))

pub returns : goal.returns
unfolding entry
returns c =
    record {
      wrote = then c.put-number_at.ensures (then c.put_decimal-end.ensures c.put.ensures);
      upper_bound = omega (arith, decimal-short c.args.n (search rules));
    }
