-- Laws of loops that go through a text byte by byte, or through numbers one by one: what is left decides.
use mathlib.Core.Path.{◌≡◌, refl, sym, ap, ◌∙◌}
use mathlib.Core.Bool.{Bool, true, false, not, ◌&&◌, cond, and-true, and_assoc}
use mathlib.Core.Logic.{⊎_elim}
use mathlib.Core.List.{List}
use Prim.Native.Nat.{ℕ, zero, suc, ◌+◌, ◌-◌, ◌≤◌, ◌<◌}
use native.Mathlib.Numerals.{add-one}
use native.Mathlib.Omega.{arith}
use lib.ListN.{length, drop, get_or, drop_of_length-le}
use lib.Seq.{drop-cons}
use lib.Dec.{ltb}
use borrow.Author.Tests.{ltb-true, ltb-false}
use Rattle.std.specs.Prelude.{Option, Some, None}
use Rattle.std.specs.List.{position_or_len}
use Rattle.std.proofs.lemmas.List.Sums.{fails_before_first, passes_at_first}
use Rattle.gap.specs.Rules.Sequence.{every}
use Rattle.gap.specs.Rules.Nearest.{nearest}
use Rattle.gap.proofs.Laws.Tests.{decided, cond-true, cond-false}
use Rattle.gap.proofs.Laws.Sequence.{every-at}
use Rattle.gap.proofs.Laws.Nearest.{least-reached, none-nowhere}

-- ok tells whether the first i bytes of s pass the test, and those from i on decide the rest.
pub record Tested (test : ℕ → Bool) (s : List ℕ) (ok : Bool) (i : ℕ) : Type 0 where
  pub within : i ≤ length s
  pub rest : every test s ≡ (ok && every test (drop i s))

module _ (test : ℕ → Bool) (s : List ℕ) where
  pub tested-start : Tested test s true 0
  tested-start = record { within = omega arith; rest = refl }

  module _ (ok : Bool) (i : ℕ) (so_far : Tested test s ok i) where
    pub tested-more : i < length s → {next : Bool} → next ≡ test (get_or s i 0) → Tested test s (ok && next) (i + 1)
    unfolding every
    tested-more more e =
        record { within = omega arith; rest = so_far.rest ∙ rw (e, add-one, drop-cons s i 0) (sym (and_assoc ok _ _)) }

    pub tested-all : length s ≤ i → ok ≡ every test s
    unfolding every
    tested-all end = sym (so_far.rest ∙ rw drop_of_length-le (and-true ok))

-- Of the n numbers from k on, none below d passes the test, so that those from d on decide.
pub record Scan (test : ℕ → Bool) (n k d : ℕ) : Type 0 where
  pub within : d ≤ k + n
  pub rest : nearest test n k ≡ nearest test (k + n - d) d

-- The first number decides, or those after it do.
first : (test : ℕ → Bool) (n k : ℕ) → 0 < n → nearest test n k ≡ cond (test k) (Some k) (nearest test (n - 1) (k + 1))
unfolding nearest
first test zero k h = absurd (omega arith)
first test (suc n) k h = let one_less : suc n - 1 ≡ n = omega arith in rw (one_less, add-one)

module _ (test : ℕ → Bool) (n k : ℕ) where
  pub scan-start : Scan test n k k
  scan-start = let all : n ≡ k + n - k = omega arith in record { within = omega arith; rest = ap (λ m. nearest test m k) all }

  module _ (d : ℕ) (so_far : Scan test n k d) where
    pub scan-found : d < k + n → test d ≡ true → Some d ≡ nearest test n k
    scan-found more e = sym (so_far.rest ∙ first test _ d (omega arith) ∙ cond-true _ _ e)

    pub scan-none : k + n ≤ d → None ≡ nearest test n k
    unfolding nearest
    scan-none end = let none : k + n - d ≡ 0 = omega arith in sym (so_far.rest ∙ ap (λ m. nearest test m d) none)

module _ (test : ℕ → Bool) (s : List ℕ) where
  abbrev fails : ℕ → Bool
  fails b = not (test b)

  abbrev place : ℕ
  place = position_or_len fails s

  -- The first byte of a text that fails a test, as `position` answers.
  pub first-failing : {found : Option ℕ} → found ≡ cond (ltb place (length s)) (Some place) None
      → found ≡ nearest (λ i. not (test (get_or s i 0))) (length s) 0
  first-failing e = e ∙ ⊎_elim there nowhere (decided (ltb place (length s)))
    where
      there : ltb place (length s) ≡ true → cond (ltb place (length s)) (Some place) None ≡ nearest (λ i. fails (get_or s i 0)) (length s) 0
      there inside =
          cond-true _ _ inside
          ∙ sym (least-reached _ (length s) 0 place (record {
            from = omega arith;
            within = omega (arith, ltb-true place (length s) inside);
            passes = passes_at_first fails s 0 (ltb-true place (length s) inside);
            before = λ j low high. fails_before_first fails s j 0 high;
          }))

      nowhere : ltb place (length s) ≡ false → cond (ltb place (length s)) (Some place) None ≡ nearest (λ i. fails (get_or s i 0)) (length s) 0
      nowhere past =
          cond-false _ _ past
          ∙ sym (none-nowhere _ (length s) 0 (λ j low high. fails_before_first fails s j 0 (omega (arith, ltb-false place (length s) past))))

  -- Where every byte passes, none is the first that does not.
  pub every-nowhere : {all : Bool} → all ≡ every test s → all ≡ true → None ≡ nearest (λ i. not (test (get_or s i 0))) (length s) 0
  every-nowhere tested e =
      sym (none-nowhere _ (length s) 0 (λ j low high. ap not (every-at test s j (sym tested ∙ e) (omega arith))))
