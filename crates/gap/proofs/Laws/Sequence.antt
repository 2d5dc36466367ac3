-- Laws of sequences: `every`, `same_bytes`, `begins`, `part`, `zeros`, `counted` and `map`.
use mathlib.Core.Path.{◌≡◌, refl, sym, ap, ap₂, ◌∙◌}
use mathlib.Core.Bool.{Bool, true, false≢true}
use mathlib.Core.List.{List, [], ◌∷◌, ◌++◌, map}
use Prim.Native.Nat.{ℕ, zero, suc, ◌+◌, ◌≤◌, ◌<◌, min, suc-le-suc}
use native.Mathlib.Nat.{le_of_suc-le-suc, not-suc-le-zero, zero-lt-suc, zero-min, min-zero, suc-min-suc}
use native.Mathlib.Omega.{arith}
use lib.Dec.{eqb}
use lib.ListN.{length, take, drop, get_or, take-append-drop, length-take, length-drop, length-replicate}
use lib.Seq.{take-nil}
use borrow.Author.Tests.{eqb-true, eq-eqb}
use Rattle.gap.specs.Rules.Sequence.{every, same_bytes, begins, part, zeros, counted}
use Rattle.gap.specs.Rules.Layout.{free}
use Rattle.gap.proofs.Laws.Tests.{and_left, and_right, and_both}

module _ (test : ℕ → Bool) where
  pub every-both : (s t : List ℕ) → every test s ≡ true → every test t ≡ true → every test (s ++ t) ≡ true
  unfolding every
  every-both [] t p q = q
  every-both (b ∷ s) t p q = and_both (and_left (test b) _ p) (every-both s t (and_right (test b) _ p) q)

  pub every-left : (s t : List ℕ) → every test (s ++ t) ≡ true → every test s ≡ true
  unfolding every
  every-left [] t p = refl
  every-left (b ∷ s) t p = and_both (and_left (test b) _ p) (every-left s t (and_right (test b) _ p))

  pub every-right : (s t : List ℕ) → every test (s ++ t) ≡ true → every test t ≡ true
  unfolding every
  every-right [] t p = p
  every-right (b ∷ s) t p = every-right s t (and_right (test b) _ p)

  pub every_take : (n : ℕ) (s : List ℕ) → every test s ≡ true → every test (take n s) ≡ true
  every_take n s p = every-left (take n s) (drop n s) (rw take-append-drop p)

  pub every_drop : (n : ℕ) (s : List ℕ) → every test s ≡ true → every test (drop n s) ≡ true
  every_drop n s p = every-right (take n s) (drop n s) (rw take-append-drop p)

  -- What every byte passes, each byte passes, wherever it stands, or what takes its place there; and the other way round.
  pub every-at : (s : List ℕ) (i : ℕ) → every test s ≡ true → i < length s → test (get_or s i 0) ≡ true
  unfolding every
  every-at [] i p h = absurd (not-suc-le-zero h)
  every-at (b ∷ s) zero p h = and_left (test b) _ p
  every-at (b ∷ s) (suc i) p h = every-at s i (and_right (test b) _ p) (le_of_suc-le-suc h)

  pub every-or : (s : List ℕ) (i none : ℕ) → every test s ≡ true → test none ≡ true → test (get_or s i none) ≡ true
  unfolding every
  every-or [] i none all ok = ok
  every-or (b ∷ s) zero none all ok = and_left (test b) _ all
  every-or (b ∷ s) (suc i) none all ok = every-or s i none (and_right (test b) _ all) ok

  pub every_map : (f : ℕ → ℕ) (s : List ℕ) → ((k : ℕ) → test (f k) ≡ true) → every test (map f s) ≡ true
  unfolding every
  every_map f [] all = refl
  every_map f (k ∷ s) all = and_both (all k) (every_map f s all)

  pub at_every : (s : List ℕ) → ((i : ℕ) → i < length s → test (get_or s i 0) ≡ true) → every test s ≡ true
  unfolding every
  at_every [] p = refl
  at_every (b ∷ s) p = and_both (p 0 (zero-lt-suc _)) (at_every s (λ i h. p (suc i) (suc-le-suc h)))

pub same_refl : (s : List ℕ) → same_bytes s s ≡ true
unfolding same_bytes
same_refl [] = refl
same_refl (b ∷ s) = and_both (eq-eqb b b refl) (same_refl s)

pub same-equal : (s t : List ℕ) → same_bytes s t ≡ true → s ≡ t
unfolding same_bytes
same-equal [] [] p = refl
same-equal [] (b ∷ t) p = absurd (false≢true p)
same-equal (a ∷ s) [] p = absurd (false≢true p)
same-equal (a ∷ s) (b ∷ t) p = ap₂ ◌∷◌ (eqb-true a b (and_left (eqb a b) _ p)) (same-equal s t (and_right (eqb a b) _ p))

-- A text that begins with the pattern is the pattern and what follows it.
pub begins-split : (pattern text : List ℕ) → begins pattern text ≡ true → text ≡ pattern ++ drop (length pattern) text
unfolding begins
begins-split pattern text p =
    sym (take-append-drop (length pattern) text) ∙ ap (λ s. s ++ drop (length pattern) text) (sym (same-equal pattern _ p))

-- The front of a front is the shorter of the two.
pub take-least : (n m : ℕ) (s : List ℕ) → take (min n m) s ≡ take m (take n s)
take-least zero m s = rw zero-min (sym (take-nil m))
take-least (suc n) zero s = rw min-zero
take-least (suc n) (suc m) [] = rw suc-min-suc
take-least (suc n) (suc m) (b ∷ s) = rw suc-min-suc (ap (λ rest. b ∷ rest) (take-least n m s))

pub length_part : (a k : ℕ) (s : List ℕ) → a + k ≤ length s → length (part a k s) ≡ k
unfolding part
length_part a k s h = simp (length-take, length-drop) (omega arith)

pub length-zeros : (n : ℕ) → length (zeros n) ≡ n
unfolding zeros
length-zeros n = length-replicate {A = ℕ} n 0

pub zeros-free : (n : ℕ) → every free (zeros n) ≡ true
unfolding every zeros
zeros-free zero = refl
zeros-free (suc n) = zeros-free n

-- Free bytes are zeros.
pub free-zeros : (s : List ℕ) → every free s ≡ true → s ≡ zeros (length s)
unfolding every zeros
free-zeros [] p = refl
free-zeros (b ∷ s) p = ap₂ ◌∷◌ (eqb-true b 0 (and_left (free b) _ p)) (free-zeros s (and_right (free b) _ p))

pub length-counted : (n k : ℕ) → length (counted n k) ≡ n
unfolding counted
length-counted zero k = refl
length-counted (suc n) k = ap suc (length-counted n (suc k))

pub at-counted : (n k i : ℕ) → i < n → get_or (counted n k) i 0 ≡ k + i
unfolding counted
at-counted zero k i h = absurd (not-suc-le-zero h)
at-counted (suc n) k zero h = omega arith
at-counted (suc n) k (suc i) h = at-counted n (suc k) i (le_of_suc-le-suc h) ∙ omega arith

-- What makes a whole list makes each of its elements; of numbers in a row, by their places.
pub at_map : {A B : Type 0} (f : A → B) (s : List A) (i : ℕ) (a : A) (b : B) → i < length s → get_or (map f s) i b ≡ f (get_or s i a)
at_map f [] i a b h = absurd (not-suc-le-zero h)
at_map f (x ∷ s) zero a b h = refl
at_map f (x ∷ s) (suc i) a b h = at_map f s i a b (le_of_suc-le-suc h)

pub at-counted-map : (f : ℕ → ℕ) (none n k i : ℕ) → i < n → get_or (map f (counted n k)) i none ≡ f (k + i)
at-counted-map f none n k i h = at_map f (counted n k) i 0 none (rw length-counted h) ∙ ap f (at-counted n k i h)
