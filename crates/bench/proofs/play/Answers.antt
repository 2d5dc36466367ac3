-- `play` ends: each turn that goes on is further along in the input.
use native.Mathlib.Omega.{arith}
use Rattle.bench.proofs.Laws.Turning.{opening-inside}
use Rattle.bench.proofs.play.Goals as goal

pub loop-turn-init : goal.loop-turn-init
loop-turn-init g c = (
  opening-inside c.args.h _ _ _ _ _ _ c.opening-turn.ensures.does c.requires.length_in_bounds,
  omega (arith, c.opening-turn.auto.out, c.requires.in_bounds),
)
