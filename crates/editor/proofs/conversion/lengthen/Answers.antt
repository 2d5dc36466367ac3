-- `lengthen` clears the new side store and puts each quarter into its longer one.
use native.Mathlib.Omega.{arith}
use Rattle.editor.specs.Rules.Bytes.{quarter}
use Rattle.editor.specs.Rules.Conversion.{old_quarter}
use Rattle.editor.proofs.Laws.Conversion.{old-shorter, quarters-lengthened}
use Rattle.editor.proofs.conversion.lengthen.Goals as goal

pub vacate-requires : goal.vacate-requires
unfolding quarter
vacate-requires c = omega (arith, c.requires.len.1)

pub returns : goal.returns
unfolding quarter
returns c =
    quarters-lengthened old_quarter quarter _ _ _ _ c.requires.len.0 c.requires.len.1 old-shorter c.requires.r_bound c.vacate.ensures
    c.lengthen_quotation.ensures
    c.lengthen_quarter.ensures c.lengthen_quarter-2.ensures c.lengthen_quarter-3.ensures
