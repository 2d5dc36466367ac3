-- `send_counted` writes if the size that it counts fits into the buffer.
use Rattle.window.proofs.Laws.SendCall.{room-refused, room-enough, all-written}
use Rattle.window.proofs.sender.send_counted.Goals as goal

pub returns-then-out-sent_size : goal.returns-then-out-sent_size
returns-then-out-sent_size c = room-refused _ _ _ _ _ _ _ c.requires c.sent_size.ensures c.if-out-sent_size.true c.unsent.ensures

pub write_screen-count-requires : goal.write_screen-count-requires
write_screen-count-requires c =
    record {
      rows_in = c.requires;
      column_in_bounds = room-enough _ _ _ _ _ _ c.args.out.now c.requires c.sent_size.ensures c.if-out-sent_size.false c.sent_column-column.ensures;
    }

pub returns : goal.returns
returns c =
    all-written _ _ _ _ _ _ _ c.requires c.sent_size.ensures c.if-out-sent_size.false
    c.sent_column-column.ensures c.write_screen-count.ensures
