-- The distance (01, plain editor): it is above 0, that many moves reach the place, no smaller number does; and it is None
-- exactly when no number of moves does.
use Rattle.std.proofs.Common.{Some, None}
use mathlib.Core.Path.{◌≡◌}
use mathlib.Core.Logic.{◌↔◌}
use mathlib.Core.Bool.{Bool, false}
use Prim.Native.Nat.{ℕ, ◌≤◌, ◌<◌}
use native.Mathlib.Omega.{arith}
use Rattle.gap.specs.declared.Direction.{Direction}
use Rattle.gap.specs.Rules.Doc.{Doc, move, times, room}
use Rattle.gap.specs.Rules.Nearest.{distance, LeastMoves}
use Rattle.gap.proofs.Laws.Nearest.{Least, reached-least, least-reached, nowhere-none, none-nowhere}

pub distance_least : (way : Direction) (place : Doc → Bool) (d : Doc) (n : ℕ)
    → (distance way place d ≡ Some n) ↔ LeastMoves way place d n
unfolding distance
distance_least way place d n = (λ e. moves (reached-least _ _ 1 n e), λ least. least-reached _ _ 1 n (number least))
  where
    moves : Least (λ m. place (times (move way) m d)) (room way d) 1 n → LeastMoves way place d n
    moves least = record { above = least.from; within = omega arith; reaches = least.passes; smaller = least.before }

    number : LeastMoves way place d n → Least (λ m. place (times (move way) m d)) (room way d) 1 n
    number least = record { from = least.above; within = omega arith; passes = least.reaches; before = least.smaller }

pub distance-nowhere : (way : Direction) (place : Doc → Bool) (d : Doc)
    → (distance way place d ≡ None) ↔ ((n : ℕ) → 0 < n → n ≤ room way d → place (times (move way) n d) ≡ false)
unfolding distance
distance-nowhere way place d = (
  λ e n above within. nowhere-none _ _ 1 e n above (omega arith),
  λ none. none-nowhere _ _ 1 (λ n above within. none n above (omega arith)),
)
