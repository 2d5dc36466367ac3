-- `Painter::finish` meets its contract: the lines before y have ended, and those that are left decide.
use Rattle.window.specs.Wording.Painter.{sheet_of}
use Rattle.window.proofs.Laws.Drawing.{Finished}
use Rattle.window.proofs.Laws.Painters.{After}
use Rattle.window.proofs.painter.Painter.finish.Given as goal

abbrev pub invariant-loop-y : goal.invariant-loop-y
invariant-loop-y l =
    After l.initial.self l.self × Finished l.initial.self.frame (sheet_of l.initial.self) l._y (sheet_of l.self)
