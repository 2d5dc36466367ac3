-- `editor::finds::find_right` meets its contract: less far from the end than the pattern is long there is no match.
use mathlib.Core.Path.{◌∙◌}
use native.Mathlib.Omega.{arith}
use Rattle.gap.proofs.Laws.Compared.{begins-empty}
use Rattle.editor.proofs.Laws.MatchScans.{distance-right, right-short, right-rest}
use Rattle.editor.proofs.finds.find_right.Goals as goal

pub returns-then-m-lt1 : goal.returns-then-m-lt1
returns-then-m-lt1 c = λ l. c.first_move.ensures _ (begins-empty _ _ c.if-m-lt1.true) ∙ distance-right _ _

pub returns-then-n-m : goal.returns-then-n-m
returns-then-n-m c = λ l. right-short _ _ c.if-n-m.true ∙ distance-right _ _

pub returns : goal.returns
returns c = λ l. right-rest _ _ _ (omega arith) (omega arith) c.nearest_match.ensures ∙ distance-right _ _
