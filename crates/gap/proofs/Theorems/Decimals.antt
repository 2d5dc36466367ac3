-- Whatever limit is set to their digits, the numbers below that power of ten and the bytes that are read as numbers correspond one to
-- one: what is written is read back, and what is read is written back.
use Rattle.std.proofs.Common.{Some, None}
use mathlib.Core.Path.{◌≡◌, refl, sym, ap, ◌∙◌}
use mathlib.Core.Logic.{⊎_elim}
use mathlib.Core.Bool.{true, ◌||◌, not}
use mathlib.Core.List.{List, [], ◌∷◌, ◌++◌, append-nil}
use Prim.Native.Nat.{ℕ, zero, suc, ◌+◌, ◌-◌, ◌*◌, ◌/◌, ◌%◌, ◌^◌, ◌≤◌, ◌<◌}
use native.Mathlib.Nat.{eq-zero-or-pos, pos_of_ne-zero, not-suc-le-zero}
use native.Mathlib.Omega.{arith}
use lib.Dec.{eqb}
use lib.ListN.{length, get_or, get_or-append}
use lib.Seq.{append_snoc}
use borrow.Author.Tests.{eqb-true, eqb-false, eq-eqb, ne_eqb, not-true}
use Rattle.gap.specs.Rules.Sequence.{every}
use Rattle.gap.specs.Rules.Decimal.{digit, value_after, value, is_number, number_of, decimal}
use Rattle.gap.proofs.Laws.Tests.{decided, and_left, and_right, and_both, or_cases, or_left, or_right}
use Rattle.gap.proofs.Laws.Decimals.{by-tenths, decimal_digit, decimal_step, decimal-some, decimal-within, decimal-digits}
use Rattle.gap.proofs.Laws.Decimals.{digit-range, value-within, value-decimal, number-tests, Numeral, number_is, number_read, number-unread}

-- Only 0 has a zero in front.
first-digit : (n : ℕ) → 0 < n → 49 ≤ get_or (decimal n) 0 0
first-digit =
    by-tenths (λ n. 0 < n → 49 ≤ get_or (decimal n) 0 0)
    (λ n small some. rw (decimal_digit n small) (omega arith))
    (λ n large tenth some.
    rw (decimal_step n large, get_or-append (decimal (n / 10)) _ 0 0 (decimal-some (n / 10))) (tenth (omega arith)))

no_zero : (n : ℕ) → (eqb (length (decimal n)) 1 || not (eqb (get_or (decimal n) 0 0) 48)) ≡ true
no_zero n =
    ⊎_elim
    (λ none. or_left _ (eq-eqb _ 1 (ap length (decimal_digit n (omega arith)))))
    (λ some. or_right (eqb (length (decimal n)) 1) (ap not (ne_eqb (get_or (decimal n) 0 0) 48 (λ e. omega (arith, first-digit n some)))))
    (eq-zero-or-pos n)

pub written_read : (most n : ℕ) → 1 ≤ most → n < 10 ^ most → number_of most (decimal n) ≡ Some n
written_read zero n one small = absurd (not-suc-le-zero one)
written_read (suc most) n one small =
    let some : 1 ≤ length (decimal n) = decimal-some n in
    let few : length (decimal n) ≤ suc most = decimal-within n most small in
    let is = sym (number-tests (suc most) (decimal n) some few refl) ∙ and_both (decimal-digits n) (no_zero n) in
    sym (number_read (suc most) (decimal n) is) ∙ ap Some (value-decimal n)

-- Digits behind a number, which is not 0, are written behind its digits.
digits-behind : (n : ℕ) (s : List ℕ) → 0 < n → every digit s ≡ true → decimal (value_after n s) ≡ decimal n ++ s
unfolding value_after every
digits-behind n [] some p = sym (append-nil (decimal n))
digits-behind n (b ∷ s) some p =
    let range : (48 ≤ b) × (b ≤ 57) = digit-range b (and_left (digit b) _ p) in
    let next : ℕ = n * 10 + (b - 48) in
    let tenth : next / 10 ≡ n = omega arith in
    let last : 48 + next % 10 ≡ b = omega arith in
    let front : decimal next ≡ decimal n ++ (b ∷ []) = decimal_step next (omega arith) ∙ rw (tenth, last) in
    digits-behind next s (omega arith) (and_right (digit b) _ p) ∙ ap (λ t. t ++ s) front ∙ append_snoc (decimal n) b s

digit-written : (b : ℕ) → digit b ≡ true → decimal (0 * 10 + (b - 48)) ≡ b ∷ []
digit-written b p =
    let range : (48 ≤ b) × (b ≤ 57) = digit-range b p in
    let same : 48 + (0 * 10 + (b - 48)) ≡ b = omega arith in
    decimal_digit (0 * 10 + (b - 48)) (omega arith) ∙ ap (λ d. d ∷ []) same

-- The first of two digits or more is not a zero.
front-digit : (most b c : ℕ) (s : List ℕ) → Numeral most (b ∷ (c ∷ s)) → digit b ≡ true → 0 < b - 48
front-digit most b c s is p =
    let range : (48 ≤ b) × (b ≤ 57) = digit-range b p in
    ⊎_elim
    (λ one. absurd (omega (arith, eqb-true (length (b ∷ (c ∷ s))) 1 one)))
    (λ other. pos_of_ne-zero (λ none. eqb-false b 48 (not-true (eqb b 48) other) (omega arith)))
    (or_cases (eqb (length (b ∷ (c ∷ s))) 1) (not (eqb b 48)) is.front)

-- So the bytes that a number is read from are the digits that it is written with.
numeral-written : (most : ℕ) (s : List ℕ) → Numeral most s → decimal (value s) ≡ s
unfolding value_after every
numeral-written most [] is = absurd (omega (arith, is.some))
numeral-written most (b ∷ []) is = digit-written b (and_left (digit b) _ is.digits)
numeral-written most (b ∷ (c ∷ s)) is =
    let first : digit b ≡ true = and_left (digit b) _ is.digits in
    digits-behind (0 * 10 + (b - 48)) (c ∷ s) (omega (arith, front-digit most b c s is first)) (and_right (digit b) _ is.digits)
    ∙ ap (λ t. t ++ (c ∷ s)) (digit-written b first)

module _ (most : ℕ) (s : List ℕ) (n : ℕ) (e : number_of most s ≡ Some n) where
  read-value : Numeral most s × (value s ≡ n)
  read-value =
      ⊎_elim
      (λ yes-it-is. let same : Some (value s) ≡ Some n = number_read most s yes-it-is ∙ e in (number_is most s yes-it-is, cc))
      (λ no-it-is.
      let other : None ≡ Some n = number-unread most s no-it-is ∙ e in
      let never : ◌≡◌ {A = ℕ} 0 1 = cc in
      absurd (omega arith))
      (decided (is_number most s))

  pub read-written : decimal n ≡ s
  read-written = let (is, worth) = read-value in ap decimal (sym worth) ∙ numeral-written most s is

  pub read_small : n < 10 ^ most
  read_small = let (is, worth) = read-value in omega (arith, value-within most s is.few is.digits)
