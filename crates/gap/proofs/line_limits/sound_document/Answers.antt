-- `sound_document`: the store is tested first, then the text at its front and the one at its back.
use mathlib.Core.Path.{sym}
use native.Mathlib.Omega.{arith}
use lib.Seq.{length-take-le}
use Rattle.gap.proofs.Laws.LineTests.{document-fits, document-left, document-right}
use Rattle.gap.proofs.line_limits.sound_document.Goals as goal

pub overflow_sub-start : goal.overflow_sub-start
overflow_sub-start c = omega (arith, document-fits _ _ _ c.sound_gap.ensures c.if-not-sound_gap.false)

pub slice_bounds-front-end : goal.slice_bounds-front-end
slice_bounds-front-end c = sym (length-take-le _ _ (omega (arith, document-fits _ _ _ c.sound_gap.ensures c.if-not-sound_gap.false)))

pub returns-then-not-lines_fit : goal.returns-then-not-lines_fit
returns-then-not-lines_fit c =
    document-left _ _ _ _ c.sound_gap.ensures c.if-not-sound_gap.false c.lines_fit.ensures c.if-not-lines_fit.true

pub returns : goal.returns
returns c =
    document-right _ _ _ _ c.sound_gap.ensures c.if-not-sound_gap.false c.lines_fit.ensures c.if-not-lines_fit.false
    c.since_newline-at.ensures (omega arith) c.lines_fit-2.ensures
