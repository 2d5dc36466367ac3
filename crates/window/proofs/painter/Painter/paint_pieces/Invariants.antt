-- `Painter::paint_pieces` meets its contract: the pieces that are left decide.
use Rattle.std.proofs.Common.{map}
use Rattle.window.specs.Wording.Painter.{sheet_of}
use Rattle.window.proofs.Laws.Pieces.{Pieces}
use Rattle.window.proofs.Laws.Painters.{After}
use Rattle.window.proofs.painter.Painter.paint_pieces.Given as goal

abbrev pub invariant-loop-piece : goal.invariant-loop-piece
invariant-loop-piece l =
    After l.initial.self l.self
    × Pieces l.initial.self.frame (map (λ p. p.now) l.pieces) (sheet_of l.initial.self) l.piece-index (sheet_of l.self)
