-- The nearest number that passes a test, and with it the distance to a place.
use Rattle.std.specs.Prelude.{◌≡◌, ◌≤◌, ◌<◌, Bool, true, false, cond, ℕ, zero, suc, Option, Some, None}
use Rattle.gap.specs.Words.{Direction}
use Rattle.gap.specs.Rules.Doc.{Doc, move, times, room}

-- Of the n numbers from k on, the least that passes.
unfoldable pub nearest : (ℕ → Bool) → ℕ → ℕ → Option ℕ
nearest test zero k = None
nearest test (suc n) k = let further = nearest test n (suc k) in cond (test k) (Some k) further

-- How many moves it takes, at the least one, until the document is at the place; no more are tried than there is room for.
-- (01, plain editor: distance.)
unfoldable pub distance : Direction → (Doc → Bool) → Doc → Option ℕ
distance way place d = nearest (λ n. place (times (move way) n d)) (room way d) 1

-- n is the least number of moves, above 0, that reach the place; there is room for them.
pub record LeastMoves (way : Direction) (place : Doc → Bool) (d : Doc) (n : ℕ) : Type 0 where
  pub above : 0 < n
  pub within : n ≤ room way d
  pub reaches : place (times (move way) n d) ≡ true
  pub smaller : (m : ℕ) → 0 < m → m < n → place (times (move way) m d) ≡ false
