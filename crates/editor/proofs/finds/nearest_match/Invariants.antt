-- `editor::finds::nearest_match` meets its contract: no place before d has a match, and a block is passed at once.
use Prim.Native.Nat.{◌+◌, ◌-◌, ◌*◌}
use Rattle.gap.proofs.Laws.Scans.{Scan}
use Rattle.editor.specs.Wording.Searches.{match_away}
use Rattle.editor.proofs.finds.nearest_match.Given as goal

abbrev pub invariant-loop-block : goal.invariant-loop-block
invariant-loop-block l = Scan (match_away l.way l.pattern l.t) (l.to - l.from) l.from (l.from + 32 * l.block)
