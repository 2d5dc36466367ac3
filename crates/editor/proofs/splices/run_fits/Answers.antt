-- `run_fits` looks at the line on which the byte and its spaces end: a newline begins it anew.
use native.Mathlib.Omega.{arith}
use Rattle.gap.proofs.Laws.Lines.{since-fits}
use Rattle.gap.specs.Wording.Views.{seen}
use Rattle.editor.proofs.Laws.Splices.{newline-fits, other_fits}
use Rattle.editor.proofs.splices.run_fits.Goals as goal

pub returns-then-b-eq10 : goal.returns-then-b-eq10
unfolding seen
returns-then-b-eq10 c = newline-fits _ _ _ _ c.requires.fits c.if-b-eq10.true c.line_fits.ensures

-- The line is no longer than what stands before the cursor.
pub overflow_add-at : goal.overflow_add-at
unfolding seen
overflow_add-at c = omega (arith, c.requires.k_bound, c.since_newline-at.ensures, since-fits 0 c.args.d.l.now)

pub overflow_add-at-2 : goal.overflow_add-at-2
unfolding seen
overflow_add-at-2 c = omega (arith, c.requires.k_bound, c.since_newline-at.ensures, since-fits 0 c.args.d.l.now)

pub returns : goal.returns
unfolding seen
returns c = other_fits _ _ _ _ c.requires.fits c.if-b-eq10.false c.since_newline-at.ensures c.line_fits-2.ensures
