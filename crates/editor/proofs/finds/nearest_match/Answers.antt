-- `editor::finds::nearest_match` meets its contract: no place before a block has a match, and a block is passed at once.
use Prim.Native.Nat.{◌+◌, ◌-◌, ◌*◌, ◌/◌}
use mathlib.Core.Path.{◌≡◌, sym, ◌∙◌}
use native.Mathlib.Nat.{add-zero}
use native.Mathlib.Omega.{arith}
use Rattle.gap.proofs.Laws.Scans.{scan-start}
use Rattle.gap.proofs.Laws.RowScans.{row-none, row-found, row_last}
use Rattle.editor.proofs.Laws.MatchScans.{reach-part}
use Rattle.editor.proofs.finds.nearest_match.Goals as goal

pub loop-block-init : goal.loop-block-init
loop-block-init c = rw (add-zero c.args.from) (scan-start _ _ _)

pub block_match-requires : goal.block_match-requires
block_match-requires c =
    record { reach = reach-part c.requires.reach (omega arith) (omega arith) (omega arith); k_in_bounds = c.telling-k.ensures.within }

pub returns-in-Some : goal.returns-in-Some
returns-in-Some c = sym c.in-Some.is ∙ row-found c.loop-block.invariant 32 (omega arith) c.block_match.ensures c.in-Some.is

pub loop-block-preserved : goal.loop-block-preserved
loop-block-preserved c =
    let next : c.args.from + 32 * c.loop-block.block + 32 ≡ c.args.from + 32 * (c.loop-block.block + 1) = omega arith in
    rw next at (row-none c.loop-block.invariant 32 (omega arith) c.block_match.ensures c.in_default.is)

pub first_match-requires : goal.first_match-requires
first_match-requires c =
    record { reach = reach-part c.requires.reach (omega arith) (omega arith) (omega arith); k_in_bounds = c.telling-k.ensures.within }

pub returns : goal.returns
returns c =
    let last : c.loop-block.block ≡ (c.args.to - c.args.from) / 32 = omega arith in
    row_last (rw last at c.loop-block.invariant) _ (omega arith) c.first_match.ensures
