-- `editor::finds::none_likely` meets its contract: the flag tells of the places passed, and what is left decides.
use mathlib.Core.Bool.{not}
use Rattle.gap.specs.Rules.Sequence.{counted}
use Rattle.gap.proofs.Laws.Scans.{Tested}
use Rattle.editor.specs.Wording.Searches.{likely_at}
use Rattle.editor.proofs.finds.none_likely.Given as goal

abbrev pub invariant-loop-i : goal.invariant-loop-i
invariant-loop-i l = Tested (λ place. not (likely_at l.pattern l.k l.t place)) (counted 32 l.at) l.none l.i
