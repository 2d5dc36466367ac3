-- `editor::finds::first_move` meets its contract: the first number decides, if there is one.
use native.Mathlib.Omega.{arith}
use Rattle.gap.proofs.Laws.Scans.{scan-start, scan-found, scan-none}
use Rattle.editor.proofs.finds.first_move.Goals as goal

pub returns-then-room-lt1 : goal.returns-then-room-lt1
returns-then-room-lt1 c = λ test e. scan-none _ _ _ _ (scan-start _ _ _) (omega arith)

pub returns : goal.returns
returns c = λ test e. scan-found _ _ _ _ (scan-start _ _ _) (omega arith) e
