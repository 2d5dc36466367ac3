-- Tests and what they tell: conjunctions, disjunctions and choices of Bools.
use mathlib.Core.Path.{◌≡◌, refl, sym, ap, ◌∙◌}
use mathlib.Core.Logic.{◌⊎◌, inl, inr}
use mathlib.Core.Bool.{Bool, true, false, ◌&&◌, ◌||◌, cond, false≢true}

-- A test is true or false; the equation goes to whoever asks.
pub decided : (t : Bool) → (t ≡ true) ⊎ (t ≡ false)
decided true = inl refl
decided false = inr refl

-- A false test is not true.
pub clash {ℓ} : {A : Type ℓ} {t : Bool} → t ≡ true → t ≡ false → A
clash yes-it-is no-it-is = absurd (false≢true (sym no-it-is ∙ yes-it-is))

pub and_left : (a b : Bool) → (a && b) ≡ true → a ≡ true
and_left true b e = refl
and_left false b e = e

pub and_right : (a b : Bool) → (a && b) ≡ true → b ≡ true
and_right true b e = e
and_right false b e = absurd (false≢true e)

pub and_both : {a b : Bool} → a ≡ true → b ≡ true → (a && b) ≡ true
and_both {a} {b} p q = ap (λ t. t && b) p ∙ q

pub or_left : {a : Bool} (b : Bool) → a ≡ true → (a || b) ≡ true
or_left b p = ap (λ t. t || b) p

pub or_right : (a : Bool) {b : Bool} → b ≡ true → (a || b) ≡ true
or_right true q = refl
or_right false q = q

pub or_cases : (a b : Bool) → (a || b) ≡ true → (a ≡ true) ⊎ (b ≡ true)
or_cases true b e = inl refl
or_cases false b e = inr e

module _ {A : Type 0} where
  pub cond-true : {t : Bool} (x y : A) → t ≡ true → cond t x y ≡ x
  cond-true x y e = ap (λ t. cond t x y) e

  pub cond-false : {t : Bool} (x y : A) → t ≡ false → cond t x y ≡ y
  cond-false x y e = ap (λ t. cond t x y) e
