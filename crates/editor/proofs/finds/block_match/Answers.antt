-- `editor::finds::block_match` meets its contract: a block where no match is likely has none.
use native.Mathlib.Omega.{arith}
use Rattle.gap.proofs.Laws.Scans.{scan-start}
use Rattle.gap.proofs.Laws.RowScans.{row_last}
use Rattle.editor.proofs.Laws.MatchScans.{block-fits, block_none}
use Rattle.editor.proofs.finds.block_match.Goals as goal

pub none_likely-requires : goal.none_likely-requires
none_likely-requires c = (block-fits c.requires.reach c.lowest_place-at.ensures, c.requires.k_in_bounds)

pub returns-then-none_likely : goal.returns-then-none_likely
returns-then-none_likely c =
    block_none c.requires.reach c.lowest_place-at.ensures _ c.requires.k_in_bounds c.none_likely.ensures c.if-none_likely.true

pub returns : goal.returns
returns c = row_last (scan-start _ _ _) _ (omega arith) c.first_match.ensures
