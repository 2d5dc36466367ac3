-- `Writer::put_rows` writes the named rows, one a turn: before turn i, the first i are written.
use native.Mathlib.Omega.{arith}
use Rattle.window.specs.Rules.Sequences.{sent_rows}
use Rattle.window.proofs.Laws.Sequences.{row_number_lem, row_inside, sent-none, sent-room, sent-more, sent-all}
use Rattle.window.proofs.writer.Writer.put_rows.Goals as goal

pub loop-i-init : goal.loop-i-init
loop-i-init c = sent-none c.args.self.now (omega (arith, c.requires.screen_in_bounds))

pub put_row-requires : goal.put_row-requires
unfolding sent_rows
put_row-requires c =
    record {
      above_bound = row_inside c.requires.rows_in c.row_count-i-end.ensures c.loop-i-test.true;
      above_in_bounds = rw (row_number_lem c.requires.rows_in c.row_count-i-end.ensures c.loop-i-test.true)
          (sent-room c.loop-i.invariant c.loop-i-test.true (rw c.row_count-i-end.ensures c.requires.screen_in_bounds));
    }

pub loop-i-preserved : goal.loop-i-preserved
unfolding sent_rows
loop-i-preserved c =
    let number = row_number_lem c.requires.rows_in c.row_count-i-end.ensures c.loop-i-test.true in
    sent-more c.loop-i.invariant c.loop-i-test.true (rw c.row_count-i-end.ensures c.requires.screen_in_bounds) (rw number at c.put_row.ensures)

pub returns : goal.returns
unfolding sent_rows
returns c = rw c.row_count-i-end.ensures at (sent-all c.loop-i.invariant c.loop-i-test.false)
