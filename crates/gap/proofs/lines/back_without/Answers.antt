-- `lines::back_without` meets its contract: there is no newline from place i on, and each block without one comes in front.
use mathlib.Core.Path.{◌≡◌, sym, ap₂, ◌∙◌}
use mathlib.Core.List.{List, ◌++◌, append_assoc}
use Prim.Native.Nat.{ℕ}
use Rattle.gap.proofs.Laws.LineScans.{backward_start, backward_fits, backward_more}
use Rattle.gap.proofs.lines.back_without.Goals as goal

-- The next block is the last of what is left.
parted : {front front' left : List ℕ} (rest block : List ℕ) → front' ≡ front → left ≡ rest ++ block → front ++ left ≡ (front' ++ rest) ++ block
parted rest block same parts = ap₂ ◌++◌ (sym same) parts ∙ sym (append_assoc _ rest block)

pub loop-block-init : goal.loop-block-init
loop-block-init c = rw c.into_iter-block-iterator.ensures.into_iter_gives (backward_start c.rchunks_exact-block-items.ensures.parts)

pub overflow_sub-i : goal.overflow_sub-i
overflow_sub-i c =
    backward_fits c.in-Some.block.now _ c.loop-block.invariant
    (parted _ c.in-Some.block.now c.in-Some.ensures.steps.1 c.in-Some.ensures.steps.2.0)

pub loop-block-preserved : goal.loop-block-preserved
loop-block-preserved c =
    backward_more _ _ c.loop-block.invariant (parted _ _ c.in-Some.ensures.steps.1 c.in-Some.ensures.steps.2.0)
    c.has_newline.ensures c.if-has_newline.false
