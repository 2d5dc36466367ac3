-- What `find` answers over a range is the nearest number that passes the test.
use Rattle.std.proofs.Common.{Option, Some, None}
use Rattle.std.specs.Prelude.{MatchOption}
use mathlib.Core.Path.{◌≡◌, sym}
use mathlib.Core.Bool.{Bool, true, false}
use Prim.Native.Nat.{ℕ, ◌+◌, ◌≤◌, ◌<◌}
use native.Mathlib.Omega.{arith}
use Rattle.gap.specs.Rules.Nearest.{nearest}
use Rattle.gap.proofs.Laws.Nearest.{least-reached, none-nowhere}

pub found-nearest : (test : ℕ → Bool) (n k m : ℕ) → m ≡ k + n → (r : Option ℕ)
    → MatchOption r ((j : ℕ) → k ≤ j → j < m → test j ≡ false)
    (λ i. (k ≤ i) × (i < m) × (test i ≡ true) × ((j : ℕ) → k ≤ j → j < i → test j ≡ false))
    → r ≡ nearest test n k
found-nearest test n k m e None none = sym (none-nowhere test n k (λ j low high. none j low (omega arith)))
found-nearest test n k m e (Some i) found =
    sym (least-reached test n k i (record { from = found.0; within = omega (arith, found.1); passes = found.2; before = found.3 }))
