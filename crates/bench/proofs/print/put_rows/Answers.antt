-- `print::put_rows` writes the rows of a screen, one a turn: before turn i, the first i are written.
use Rattle.bench.proofs.Laws.Printed.{shown-none, row_room, shown-more}
use Rattle.bench.proofs.print.put_rows.Goals as goal

pub loop-init : goal.loop-init
loop-init c = shown-none _ _ _ _ _ c.requires.screen_len c.requires.screen_in_bounds

pub put_row-next-requires : goal.put_row-next-requires
put_row-next-requires c = row_room c.loop.invariant c.loop-test.true c.split_at.ensures.front

pub loop-preserved : goal.loop-preserved
loop-preserved c =
    shown-more c.loop.invariant c.loop-test.true c.split_at.ensures.front c.split_at.ensures.back c.put_row-next.ensures
