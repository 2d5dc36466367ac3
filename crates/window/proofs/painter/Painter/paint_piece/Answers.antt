-- `Painter::paint_piece` meets its contract: what lies above the window is counted, and the rest is drawn.
use mathlib.Core.Path.{ap, ◌∙◌}
use native.Mathlib.Omega.{arith}
use Rattle.gap.proofs.Laws.Lines.{newlines-fit}
use Rattle.window.specs.Wording.Painter.{sheet_of, with_sheet}
use Rattle.window.proofs.Laws.Pieces.{piece-above, first-line, piece-asked, piece-painted}
use Rattle.window.proofs.painter.Painter.paint_piece.Goals as goal

pub overflow_add-below : goal.overflow_add-below
overflow_add-below c = omega (arith, c.count_newlines.ensures, newlines-fit c.args.t.now, c.requires.pen)

pub returns-then-below-top : goal.returns-then-below-top
returns-then-below-top c =
    ap (with_sheet c.args.self.now)
    (piece-above c.args.self.now.frame c.args.t.now (sheet_of c.args.self.now) c.count_newlines.ensures c.since_newline-self.ensures c.if-below-top.true)

pub draw-requires-2 : goal.draw-requires-2
draw-requires-2 c =
    let both = piece-asked (first-line _ _ _ c.count_newlines.ensures c.if-top-self.false c.if-below-top.false c.line_start-at.ensures) c.requires in
    record { easel = both.0; pen_value = both.1 }

pub returns : goal.returns
returns c =
    c.draw-2.ensures
    ∙ ap (with_sheet c.args.self.now)
    (piece-painted (first-line _ _ _ c.count_newlines.ensures c.if-top-self.false c.if-below-top.false c.line_start-at.ensures))
