-- `write_screen`: the writer holds nothing, then the rows, then the spot behind them. That the buffer is left as the writer leaves it
-- follows from the references' names, which `search` finds.
use mathlib.Core.Path.{ap}
use borrow.Author.Rules.{rules}
use Rattle.window.proofs.Laws.Writer.{second-room, both-wrote}
use Rattle.window.proofs.writer.write_screen.Goals as goal

pub returns : goal.returns
returns c =
    let wrote = both-wrote _ (ap (λ r. r.now) c.at_front-writer.ensures.0) c.at_front-writer.ensures.1 _ _ c.requires.column_in_bounds
    c.put_rows.ensures c.put_spot.ensures in
    search rules

pub put_spot-requires : goal.put_spot-requires
put_spot-requires c =
    second-room _ (ap (λ r. r.now) c.at_front-writer.ensures.0) c.at_front-writer.ensures.1 _ _ c.requires.column_in_bounds c.put_rows.ensures
