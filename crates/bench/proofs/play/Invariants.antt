-- `play` ends: each turn that goes on is further along in the input.
use Prim.Native.Nat.{◌≤◌}
use lib.ListN.{length}
use Rattle.bench.specs.Wording.Turns.{handed_on}
use Rattle.bench.proofs.Laws.Turning.{turns_left}
use Rattle.bench.proofs.play.Given as goal

-- The next line is within the input, and what is printed has room.
abbrev pub invariant-loop-turn : goal.invariant-loop-turn
invariant-loop-turn g l = ((handed_on l.turn.next).at ≤ length l.input) × (17408 ≤ length l.out)

abbrev pub decreases-loop-turn : goal.decreases-loop-turn
decreases-loop-turn g l = turns_left l.turn.next (length l.input)
