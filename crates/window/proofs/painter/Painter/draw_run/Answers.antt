-- `Painter::draw_run` meets its contract: of the run nothing is seen, or what is seen is lent, compared and written over in one go.
use mathlib.Core.Path.{refl, ap}
use Rattle.window.specs.Wording.Painter.{with_sheet}
use Rattle.window.proofs.Laws.DrawnCells.{run-unseen, run-drawn}
use Rattle.window.proofs.painter.Painter.draw_run.Goals as goal

pub returns-then-high-low : goal.returns-then-high-low
returns-then-high-low c =
    ap (with_sheet c.args.self.now)
    (run-unseen _ (c.requires.easel, c.requires.pen_value) c.max-low.ensures c.min-high.ensures c.requires.run_value c.if-high-low.true refl)

pub returns : goal.returns
returns c =
    ap (with_sheet c.args.self.now)
    (run-drawn _ (c.requires.easel, c.requires.pen_value) c.max-low.ensures c.min-high.ensures c.if-high-low.false c.cell_at-at.ensures
    c.requires.run_value c.put_run-changed.ensures.0 c.put_run-changed.ensures.1 refl)
