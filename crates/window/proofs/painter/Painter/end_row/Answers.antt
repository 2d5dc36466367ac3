-- `Painter::end_row` meets its contract: what is left of the row is lent, compared and written over with blanks.
use mathlib.Core.Path.{ap, ◌∙◌}
use Prim.Native.Nat.{◌+◌, min}
use Rattle.window.specs.Wording.Painter.{with_sheet}
use Rattle.window.proofs.Laws.DrawnCells.{at_edge, row-ended}
use Rattle.window.proofs.painter.Painter.end_row.Goals as goal

pub returns : goal.returns
returns c =
    let f = c.args.self.now.frame in
    let from = c.min-low.ensures ∙ ap (λ n. min n (f.c + f.w)) c.max.ensures in
    ap (with_sheet c.args.self.now)
    (row-ended (c.requires.easel, c.requires.pen_value) (at_edge from) c.cell_at-at.ensures
    c.put_run-changed.ensures.0 c.put_run-changed.ensures.1 c.next_line-self.ensures)
