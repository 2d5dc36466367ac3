-- Laws of numbers in a row: tested one after the other, and searched for the nearest that passes, row by row.
use Rattle.std.proofs.Common.{Option, Some, None}
use mathlib.Core.Path.{◌≡◌, refl, sym, ap, ◌∙◌}
use mathlib.Core.Bool.{Bool, true, false, ◌&&◌, cond}
use Prim.Native.Nat.{ℕ, zero, suc, ◌+◌, ◌-◌, ◌≤◌, ◌<◌}
use native.Mathlib.Omega.{arith}
use lib.ListN.{length}
use Rattle.gap.specs.Rules.Sequence.{every, counted}
use Rattle.gap.specs.Rules.Nearest.{nearest}
use Rattle.gap.proofs.Laws.Sequence.{every-at, length-counted, at-counted}
use Rattle.gap.proofs.Laws.Nearest.{none-nowhere}
use Rattle.gap.proofs.Laws.Scans.{Tested, tested-more, tested-all, Scan}

-- The flag tells whether the first i numbers pass the test, and those from there on decide the rest.
module _ (test : ℕ → Bool) (n k : ℕ) {ok : Bool} {i : ℕ} (so_far : Tested test (counted n k) ok i) where
  pub numbers_more : i < n → {next : Bool} → next ≡ test (k + i) → Tested test (counted n k) (ok && next) (i + 1)
  numbers_more more e =
      let inside : i < length (counted n k) = rw length-counted more in
      tested-more test _ _ _ so_far inside (e ∙ ap test (sym (at-counted n k i more)))

  pub numbers-all : n ≤ i → ok ≡ every test (counted n k)
  numbers-all end = tested-all test _ _ _ so_far (rw length-counted end)

-- What every number passes, each one passes.
pub numbers-at : (test : ℕ → Bool) (n k i : ℕ) → every test (counted n k) ≡ true → i < n → test (k + i) ≡ true
numbers-at test n k i all inside = rw (← at-counted n k i inside) (every-at test (counted n k) i all (rw length-counted inside))

-- The first of two rows of numbers decides if one of its numbers passes; else the second does.
abbrev or_else : Option ℕ → Option ℕ → Option ℕ
or_else (Some d) other = Some d
or_else None other = other

tested-first : (passes : Bool) (k : ℕ) (x y : Option ℕ) → cond passes (Some k) (or_else x y) ≡ or_else (cond passes (Some k) x) y
tested-first true k x y = refl
tested-first false k x y = refl

two-rows : (test : ℕ → Bool) (a b k : ℕ) → nearest test (a + b) k ≡ or_else (nearest test a k) (nearest test b (k + a))
unfolding nearest
two-rows test zero b k = let all : 0 + b ≡ b = omega arith in let here : k + 0 ≡ k = omega arith in rw (all, here)
two-rows test (suc a) b k =
    let more : suc a + b ≡ suc (a + b) = omega arith in
    let onward : k + suc a ≡ suc k + a = omega arith in
    rw (more, onward, two-rows test a b (suc k)) (tested-first (test k) k _ _)

else-nowhere : (x : Option ℕ) → or_else x None ≡ x
else-nowhere (Some d) = refl
else-nowhere None = refl

-- If no number of the second passes, the first is all there is.
pub one-row : (test : ℕ → Bool) (a b k : ℕ) → ((j : ℕ) → k + a ≤ j → j < k + a + b → test j ≡ false)
    → nearest test a k ≡ nearest test (a + b) k
one-row test a b k none =
    sym (two-rows test a b k ∙ ap (or_else (nearest test a k)) (none-nowhere test b (k + a) none) ∙ else-nowhere (nearest test a k))

else-none : {x : Option ℕ} (y : Option ℕ) → x ≡ None → or_else x y ≡ y
else-none y e = ap (λ x. or_else x y) e

else-found : {x : Option ℕ} {d : ℕ} (y : Option ℕ) → x ≡ Some d → or_else x y ≡ x
else-found y e = ap (λ x. or_else x y) e ∙ sym e

-- A row of m numbers from d on was searched: it has the answer, or the search goes on behind it.
module _ {test : ℕ → Bool} {n k d : ℕ} (so_far : Scan test n k d) (m : ℕ) (fits : d + m ≤ k + n) {found : Option ℕ}
    (searched : found ≡ nearest test m d) where
  behind : nearest test n k ≡ or_else found (nearest test (k + n - (d + m)) (d + m))
  behind =
      let rows : k + n - d ≡ m + (k + n - (d + m)) = omega arith in
      so_far.rest ∙ rw (rows, searched) (two-rows test m (k + n - (d + m)) d)

  pub row-none : found ≡ None → Scan test n k (d + m)
  row-none e = record { within = fits; rest = behind ∙ else-none _ e }

  pub row-found : {e : ℕ} → found ≡ Some e → found ≡ nearest test n k
  row-found e = sym (behind ∙ else-found _ e)

-- The last row decides.
pub row_last : {test : ℕ → Bool} {n k d : ℕ} → Scan test n k d → (m : ℕ) → k + n ≡ d + m → {found : Option ℕ}
    → found ≡ nearest test m d → found ≡ nearest test n k
row_last {test} {n} {k} {d} so_far m end searched =
    let size : k + n - d ≡ m = omega arith in searched ∙ sym (so_far.rest ∙ ap (λ j. nearest test j d) size)
