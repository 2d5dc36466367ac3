-- `Painter::draw` meets its contract: what is left of the text decides, run by run and line by line.
use Rattle.window.specs.Wording.Painter.{sheet_of}
use Rattle.window.proofs.Laws.Drawing.{Drawn}
use Rattle.window.proofs.Laws.Painters.{After}
use Rattle.window.proofs.painter.Painter.draw.Given as goal

abbrev pub invariant-loop-y : goal.invariant-loop-y
invariant-loop-y l =
    After l.initial.self l.self × Drawn l.initial.self.frame l.t (sheet_of l.initial.self) l._y l.i (sheet_of l.self)
