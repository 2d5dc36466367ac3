-- `editor::finds::none_likely` meets its contract: the flag tells of the places passed, and what is left decides.
use mathlib.Core.Path.{ap}
use mathlib.Core.Bool.{not}
use native.Mathlib.Omega.{arith}
use Rattle.gap.proofs.Laws.Scans.{tested-start}
use Rattle.gap.proofs.Laws.RowScans.{numbers_more, numbers-all}
use Rattle.editor.proofs.finds.none_likely.Goals as goal

pub loop-i-init : goal.loop-i-init
loop-i-init c = tested-start _ _

pub loop-i-preserved : goal.loop-i-preserved
loop-i-preserved c = numbers_more _ _ _ c.loop-i.invariant (omega (arith, c.loop-i-test.true)) (ap not c.likely.ensures)

pub returns : goal.returns
returns c = numbers-all _ _ _ c.loop-i.invariant c.loop-i-test.false
