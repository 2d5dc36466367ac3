-- `sound_gap`: lengths that do not fit fail the test, and where they fit it is the test of the parts. What `free_between` asks is answered
-- though the check finds it: so a `fit` that promises less is refused there, where a sum would wrap, and not for the form of a proof.
use native.Mathlib.Omega.{arith}
use Rattle.gap.proofs.Laws.StoreTests.{long-gap, gap_parts}
use Rattle.gap.proofs.sound.sound_gap.Goals as goal

pub free_between-requires : goal.free_between-requires
free_between-requires c = omega (arith, c.fit.ensures.0 c.if-fit.true)

pub returns-then-fit : goal.returns-then-fit
returns-then-fit c = gap_parts _ _ _ (c.fit.ensures.0 c.if-fit.true) c.free_between.ensures

pub returns : goal.returns
returns c = long-gap _ _ _ (c.fit.ensures.1 c.if-fit.false)
