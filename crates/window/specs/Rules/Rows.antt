-- Named rows. (01, the window: named rows.)
use Rattle.std.specs.Prelude.{◌≡◌, ◌↔◌, ◌≢◌, ◌≤◌, List, Bool, not, ℕ, suc, ◌-◌, ◌*◌, Option, Some, None}
use Rattle.gap.specs.Rules.Sequence.{same_bytes, part}
use Rattle.gap.specs.Rules.Nearest.{nearest}

-- Row i of a screen of W columns, from 1.
abbrev pub screen_row : ℕ → ℕ → List ℕ → List ℕ
screen_row W i screen = part ((i - 1) * W) W screen

-- The row is another one now. Screens are compared, not texts. (DECISIONS B29.)
abbrev pub changed : ℕ → List ℕ → List ℕ → ℕ → Bool
changed W old new i = not (same_bytes (screen_row W i old) (screen_row W i new))

-- The first named row: the least of H that changed, or 0.
abbrev pub or_none : Option ℕ → ℕ
or_none (Some i) = i
or_none None = 0

unfoldable pub first_row : ℕ → ℕ → List ℕ → List ℕ → ℕ
first_row H W old new = or_none (nearest (changed W old new) H 1)

-- The last named row: the greatest that changed, or 0. Counted upwards from the lowest row it is the least.
abbrev pub from_below : ℕ → Option ℕ → ℕ
from_below H (Some i) = suc H - i
from_below H None = 0

unfoldable pub last_row : ℕ → ℕ → List ℕ → List ℕ → ℕ
last_row H W old new = from_below H (nearest (λ i. changed W old new (suc H - i)) H 1)

-- ---- What the rows that a call names are: demand 3 says it so

-- Every row of a screen of H rows that differs is one of the rows a to b.
abbrev pub Covers : ℕ → ℕ → List ℕ → List ℕ → ℕ → ℕ → Type 0
Covers H W old new a b = (i : ℕ) → 1 ≤ i → i ≤ H → screen_row W i old ≢ screen_row W i new → (a ≤ i) × (i ≤ b)

-- 01, named rows: the shortest run of rows that covers every changed row.
pub record Shortest (H W : ℕ) (old new : List ℕ) (first last : ℕ) : Type 0 where
  -- No row is named exactly when nothing changed.
  pub no-first : (first ≡ 0) ↔ (old ≡ new)
  pub no_last : (last ≡ 0) ↔ (old ≡ new)
  -- Where something changed, the named rows are a run of the screen's rows,
  pub rows : old ≢ new → (1 ≤ first) × (first ≤ last) × (last ≤ H)
  -- every changed row is among them,
  pub covers : Covers H W old new first last
  -- and each run that covers every changed row begins no later and ends no earlier.
  pub shortest : old ≢ new → (a b : ℕ) → Covers H W old new a b → (a ≤ first) × (last ≤ b)
