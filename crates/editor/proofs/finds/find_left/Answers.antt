-- `editor::finds::find_left` meets its contract: where a match may reach across the cursor there is none, so that those beyond decide.
use mathlib.Core.Path.{sym, ◌∙◌}
use native.Mathlib.Omega.{arith}
use Rattle.gap.specs.Wording.Views.{seen}
use Rattle.gap.proofs.Laws.Scans.{scan-start}
use Rattle.gap.proofs.Laws.RowScans.{row-found}
use Rattle.gap.proofs.Laws.Compared.{begins-empty}
use Rattle.editor.proofs.Laws.MatchScans.{distance-left, left-reach, left-beyond}
use Rattle.editor.proofs.finds.find_left.Goals as goal

pub returns-then-m-lt1 : goal.returns-then-m-lt1
unfolding seen
returns-then-m-lt1 c = c.first_move.ensures _ (begins-empty _ _ c.if-m-lt1.true) ∙ distance-left _ _

pub returns-then-l-m : goal.returns-then-l-m
unfolding seen
returns-then-l-m c = c.match_across.ensures ∙ distance-left _ _

pub nearest_match-requires : goal.nearest_match-requires
unfolding seen
nearest_match-requires c = record { reach = left-reach _ (seen c.args.d) c.if-m-lt1.false c.if-l-m.false; in_bounds = c.if-m-lt1.false }

pub returns-in-Some : goal.returns-in-Some
unfolding seen
returns-in-Some c = sym c.in-Some.is ∙ row-found (scan-start _ _ _) _ (omega arith) c.match_across-2.ensures c.in-Some.is ∙ distance-left _ (seen c.args.d)

pub returns : goal.returns
unfolding seen
returns c =
    left-beyond _ (seen c.args.d) c.if-m-lt1.false c.if-l-m.false c.match_across-2.ensures c.in_default.is c.nearest_match.ensures
    ∙ distance-left _ (seen c.args.d)
