-- `lines::count_newlines` meets its contract: the count is that of the blocks passed.
use mathlib.Core.Path.{◌∙◌}
use native.Mathlib.Omega.{arith}
use Rattle.std.specs.Slice.Iter.{chunks_rest}
use Rattle.gap.proofs.Laws.LineScans.{counted-fit, counted-block, counted-all}
use Rattle.gap.proofs.lines.count_newlines.Goals as goal

pub overflow_add-count : goal.overflow_add-count
overflow_add-count c =
    omega (
      arith,
      c.from-count.ensures,
      counted-fit (counted-block _ _ c.loop-block.invariant.counted c.in-Some.ensures.steps.1.0 c.newlines_short.ensures),
    )

pub loop-block-preserved : goal.loop-block-preserved
loop-block-preserved c =
    rw c.from-count.ensures
    (record {
      size = c.in-Some.ensures.steps.0 ∙ c.loop-block.invariant.size;
      counted = counted-block _ _ c.loop-block.invariant.counted c.in-Some.ensures.steps.1.0 c.newlines_short.ensures;
    })

pub returns : goal.returns
returns c = counted-all (chunks_rest c.loop-block.block-iterator) c.loop-block.invariant.counted (omega (arith, c.in-None.ensures.steps.1.0))
