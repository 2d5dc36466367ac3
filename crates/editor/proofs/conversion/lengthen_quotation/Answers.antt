-- `lengthen_quotation` copies the texts left and right of the quotation's cursor to the two ends of its new quarter.
use native.Mathlib.Omega.{arith}
use lib.ListN.{length-take, length-drop}
use Rattle.editor.specs.Rules.Bytes.{quarter}
use Rattle.editor.specs.Rules.Conversion.{old_quarter}
use Rattle.editor.proofs.Laws.Conversion.{quotation-spread}
use Rattle.editor.proofs.conversion.lengthen_quotation.Goals as goal

pub slice_bounds-quotation-end : goal.slice_bounds-quotation-end
unfolding old_quarter
slice_bounds-quotation-end c = simp length-take (omega (arith, c.requires))

pub overflow_sub-behind : goal.overflow_sub-behind
unfolding old_quarter
overflow_sub-behind c = omega (arith, c.requires)

pub slice_bounds-copy_at-end : goal.slice_bounds-copy_at-end
unfolding old_quarter
slice_bounds-copy_at-end c = simp length-take (omega (arith, c.requires))

pub copy_at-requires : goal.copy_at-requires
unfolding old_quarter quarter
copy_at-requires c = simp length-take (omega (arith, c.requires))

pub slice_bounds-copy_at-count : goal.slice_bounds-copy_at-count
unfolding old_quarter
slice_bounds-copy_at-count c = simp length-take (omega (arith, c.requires))

pub slice_bounds-copy_at-start : goal.slice_bounds-copy_at-start
unfolding old_quarter
slice_bounds-copy_at-start c = simp length-take (omega (arith, c.requires))

pub overflow_sub-r : goal.overflow_sub-r
unfolding old_quarter
overflow_sub-r c = omega (arith, c.requires)

pub copy_at-requires-2 : goal.copy_at-requires-2
unfolding old_quarter quarter
copy_at-requires-2 c = simp (length-take, length-drop) (omega (arith, c.requires, c.copy_at.auto))

pub returns : goal.returns
unfolding old_quarter quarter
returns c = quotation-spread 256 1024 _ _ _ _ c.requires.len.0 c.requires.r_bound c.copy_at.ensures c.copy_at-2.ensures
