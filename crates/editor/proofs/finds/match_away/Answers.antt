-- `editor::finds::match_away` meets its contract: where a match is not likely there is none.
use native.Mathlib.Omega.{arith}
use Rattle.editor.proofs.Laws.MatchScans.{away-fits, away-compared, away-unlikely}
use Rattle.editor.proofs.finds.match_away.Goals as goal

pub likely-requires : goal.likely-requires
likely-requires c = (away-fits c.requires.reach c.lowest_place-at.ensures, c.requires.k_in_bounds)

pub run_begins-requires : goal.run_begins-requires
run_begins-requires c = omega (arith, away-fits c.requires.reach c.lowest_place-at.ensures)

pub returns-then-likely : goal.returns-then-likely
returns-then-likely c = away-compared c.requires.reach c.lowest_place-at.ensures c.run_begins.ensures

pub returns : goal.returns
returns c = away-unlikely c.requires.reach c.lowest_place-at.ensures _ c.requires.k_in_bounds c.likely.ensures c.if-likely.false
