-- `sound_pair`: lengths that do not fit fail the test, and where they fit it is the test of the parts.
use Rattle.gap.proofs.Laws.StoreTests.{long-pair, pair_parts}
use Rattle.gap.proofs.sound.sound_pair.Goals as goal

pub returns-then-fit : goal.returns-then-fit
returns-then-fit c = pair_parts _ _ _ (c.fit.ensures.0 c.if-fit.true) c.free_between.ensures

pub returns : goal.returns
returns c = long-pair _ _ _ (c.fit.ensures.1 c.if-fit.false)
