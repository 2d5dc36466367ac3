-- Refusals in order: the first check that fails gives its number, and each number is given exactly when its check is the first
-- to fail.
use mathlib.Core.Path.{◌≡◌, refl}
use mathlib.Core.Logic.{◌↔◌}
use mathlib.Core.Bool.{Bool, true, false, not, ◌&&◌, false≢true, true≢false}
use mathlib.Core.List.{List, [], ◌∷◌, ◌++◌}
use Prim.Native.Nat.{ℕ}
use lib.Dec.{eqb}
use borrow.Author.Tests.{eqb-false, not-true}
use Rattle.gap.specs.Rules.Checks.{Check, check, first_failed, Passing}
use Rattle.gap.proofs.Laws.Tests.{and_left, and_right}

-- The number is neither 0 nor any of the list's.
abbrev pub avoids : ℕ → List Check → Bool
avoids n [] = not (eqb 0 n)
avoids n (check m t ∷ cs) = not (eqb m n) && avoids n cs

other : (m n : ℕ) → not (eqb m n) ≡ true → m ≡ n → ⊥
other m n e = eqb-false m n (not-true (eqb m n) e)

-- A list that avoids a number does not give it.
never : (n : ℕ) (cs : List Check) → avoids n cs ≡ true → first_failed cs ≡ n → ⊥
unfolding first_failed
never n [] far e = other 0 n far e
never n (check m true ∷ cs) far e = never n cs (and_right (not (eqb m n)) (avoids n cs) far) e
never n (check m false ∷ cs) far e = other m n (and_left (not (eqb m n)) (avoids n cs) far) e

-- Each number is given exactly when its check is the first to fail.
pub exactly : (before : List Check) (n : ℕ) (t : Bool) (behind : List Check) → avoids n before ≡ true → avoids n behind ≡ true
    → (first_failed (before ++ (check n t ∷ behind)) ≡ n) ↔ (Passing before × (t ≡ false))
unfolding first_failed
exactly [] n true behind far near = (λ e. absurd (never n behind near e), λ h. absurd (true≢false h.1))
exactly [] n false behind far near = (λ e. (tt, refl), λ h. refl)
exactly (check m true ∷ cs) n t behind far near =
    let rest = exactly cs n t behind (and_right (not (eqb m n)) (avoids n cs) far) near in
    (λ e. ((refl, (rest.0 e).0), (rest.0 e).1), λ h. rest.1 (h.0.1, h.1))
exactly (check m false ∷ cs) n t behind far near =
    (λ e. absurd (other m n (and_left (not (eqb m n)) (avoids n cs) far) e), λ h. absurd (false≢true h.0.0))

-- The list's numbers are not 0.
abbrev pub numbered : List Check → Bool
numbered [] = true
numbered (check m t ∷ cs) = not (eqb m 0) && numbered cs

-- 0 is given exactly when every check passes.
pub accepted-exactly : (cs : List Check) → numbered cs ≡ true → (first_failed cs ≡ 0) ↔ Passing cs
unfolding first_failed
accepted-exactly [] far = (λ e. tt, λ h. refl)
accepted-exactly (check m true ∷ cs) far =
    let rest = accepted-exactly cs (and_right (not (eqb m 0)) (numbered cs) far) in
    (λ e. (refl, rest.0 e), λ h. rest.1 h.1)
accepted-exactly (check m false ∷ cs) far =
    (λ e. absurd (other m 0 (and_left (not (eqb m 0)) (numbered cs) far) e), λ h. absurd (false≢true h.0))
