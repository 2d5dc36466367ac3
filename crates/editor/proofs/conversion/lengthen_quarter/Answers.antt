-- `lengthen_quarter` copies one old quarter to the place of its new one.
use mathlib.Core.Path.{ap, ◌∙◌}
use Prim.Native.Nat.{◌*◌}
use native.Mathlib.Omega.{arith}
use lib.ListN.{length-take, length-drop}
use Rattle.gap.specs.Rules.Sequence.{patch}
use Rattle.editor.proofs.Laws.Quarters.{lent-before}
use Rattle.editor.specs.Rules.Bytes.{quarter}
use Rattle.editor.specs.Rules.Conversion.{old_quarter}
use Rattle.editor.proofs.conversion.lengthen_quarter.Goals as goal

pub slice_bounds-copy_at-end : goal.slice_bounds-copy_at-end
unfolding old_quarter
slice_bounds-copy_at-end c = omega (arith, c.requires)

pub copy_at-requires : goal.copy_at-requires
unfolding old_quarter quarter
copy_at-requires c = simp (length-take, length-drop) (omega (arith, c.requires))

pub returns : goal.returns
unfolding old_quarter quarter
returns c = c.copy_at.ensures ∙ ap (λ run. patch (c.args.i * 1024) run c.args.side.now) (lent-before 256 c.args.i c.args.old.now)
