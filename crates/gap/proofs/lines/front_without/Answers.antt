-- `lines::front_without` meets its contract: there is no newline from place `at` up to place i, and each block without one comes behind.
use Rattle.gap.proofs.Laws.Runs.{tail-lent}
use Rattle.gap.proofs.Laws.LineScans.{onward_start, onward_more}
use Rattle.gap.proofs.lines.front_without.Goals as goal

pub loop-block-init : goal.loop-block-init
loop-block-init c =
    rw (c.into_iter-block-iterator.ensures.into_iter_gives, c.chunks_exact-block-items.ensures.rest)
    (onward_start c.requires (tail-lent _ c.args.s.now))

pub loop-block-preserved : goal.loop-block-preserved
loop-block-preserved c =
    onward_more _ _ c.loop-block.invariant c.in-Some.ensures.steps.1.0 c.has_newline.ensures c.if-has_newline.false
