-- Checks in order: the first that fails refuses with its number. (01, refusals: the first that applies is given.)
use Rattle.std.specs.Prelude.{◌≡◌, List, [], ◌∷◌, Bool, true, cond, ℕ}

-- A check: the number that is given where it fails, and whether it passes.
pub data Check : Type 0 where
  check : ℕ → Bool → Check

-- The first check that fails refuses with its number; where all pass, the call is carried out.
abbrev pub unless : {A : Type 0} → List Check → (ℕ → A) → A → A
unless [] refuse accept = accept
unless (check n passes ∷ checks) refuse accept = cond passes (unless checks refuse accept) (refuse n)

-- The number that a list of checks gives, 0 where every check passes; and that every check passes.
unfoldable pub first_failed : List Check → ℕ
first_failed checks = unless checks (λ n. n) 0

abbrev pub Passing : List Check → Type 0
Passing [] = Unit {0}
Passing (check n passes ∷ checks) = (passes ≡ true) × Passing checks
