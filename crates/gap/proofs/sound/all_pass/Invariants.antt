-- `sound::all_pass` meets its contract: the flag tells whether the bytes passed pass the test, and what is left decides.
use mathlib.Core.Bool.{Bool}
use Prim.Native.Nat.{ℕ}
use Rattle.gap.specs.Wording.Closures.{Says}
use Rattle.gap.proofs.Laws.Scans.{Tested}
use Rattle.gap.proofs.sound.all_pass.Given as goal

abbrev pub invariant-loop-b : goal.invariant-loop-b
invariant-loop-b g l = (passes : ℕ → Bool) → Says (goal.F-post g l.test) passes → Tested passes l.s l.ok l.b-index
