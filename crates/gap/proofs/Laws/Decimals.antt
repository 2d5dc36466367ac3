-- Laws of decimal numbers: the digits that a number is written with, and the number that digits write.
use Rattle.std.proofs.Common.{Some, None}
use mathlib.Core.Path.{◌≡◌, refl, sym, ap, ◌∙◌}
use mathlib.Core.Logic.{⊎_elim}
use mathlib.Core.Bool.{Bool, true, false, ◌&&◌, ◌||◌, not, and-false}
use mathlib.Core.List.{List, [], ◌∷◌, ◌++◌}
use Prim.Native.Nat.{ℕ, zero, suc, ◌+◌, ◌-◌, ◌*◌, ◌/◌, ◌%◌, ◌^◌, ◌≤◌, ◌<◌}
use native.Mathlib.Nat.{add-zero, not-suc-le-zero, pow-suc, pow-le-pow_right}
use native.Mathlib.Numerals.{add-one}
use native.Mathlib.Omega.{arith}
use lib.Dec.{eqb, leb}
use lib.ListN.{length, drop, get_or, length-append, drop_of_length-le}
use lib.Seq.{drop-cons}
use borrow.Author.Tests.{leb-true, lt-ltb, le-ltb, le-leb, lt-leb}
use Rattle.std.proofs.lemmas.Bool.{cases_lt}
use Rattle.gap.specs.Rules.Sequence.{every}
use Rattle.gap.specs.Rules.Decimal.{digit, value_after, value, word_digits, is_number, number_of, digits_in, decimal}
use Rattle.gap.proofs.Laws.Tests.{and_left, and_right, and_both, cond-true, cond-false}
use Rattle.gap.proofs.Laws.Sequence.{every-both, every-at}

-- What holds below ten, and of any other number if it holds of its tenth part, holds of every number.
module _ (P : ℕ → Type 0) (small : (n : ℕ) → n < 10 → P n) (large : (n : ℕ) → 10 ≤ n → P (n / 10) → P n) where
  below : (most n : ℕ) → n < most → P n
  below zero n h = absurd (not-suc-le-zero h)
  below (suc most) n h = ⊎_elim (small n) (λ more. large n more (below most (n / 10) (omega arith))) (cases_lt n 10)

  pub by-tenths : (n : ℕ) → P n
  by-tenths n = below (suc n) n (omega arith)

-- A number below ten has one digit, and any other has its last one behind those of its tenth part.
abbrev last_digit : ℕ → List ℕ
last_digit n = (48 + n % 10) ∷ []

module _ (most n : ℕ) where
  digits-one : n < 10 → digits_in (suc most) n ≡ (48 + n) ∷ []
  unfolding digits_in
  digits-one small = cond-true _ _ (lt-ltb n 10 small)

  digits_more : 10 ≤ n → digits_in (suc most) n ≡ digits_in most (n / 10) ++ last_digit n
  unfolding digits_in
  digits_more large = cond-false _ _ (le-ltb n 10 large)

-- A bound above the number leaves out no digit, so that any two such bounds give the same.
digits-bound : (most more n : ℕ) → n < most → n < more → digits_in most n ≡ digits_in more n
digits-bound zero more n h g = absurd (not-suc-le-zero h)
digits-bound (suc most) zero n h g = absurd (not-suc-le-zero g)
digits-bound (suc most) (suc more) n h g =
    ⊎_elim
    (λ small. digits-one most n small ∙ sym (digits-one more n small))
    (λ large.
    let front : digits_in most (n / 10) ≡ digits_in more (n / 10) = digits-bound most more (n / 10) (omega arith) (omega arith) in
    digits_more most n large ∙ ap (λ s. s ++ last_digit n) front ∙ sym (digits_more more n large))
    (cases_lt n 10)

pub decimal_digit : (n : ℕ) → n < 10 → decimal n ≡ (48 + n) ∷ []
unfolding decimal
decimal_digit n small = digits-one n n small

pub decimal_step : (n : ℕ) → 10 ≤ n → decimal n ≡ decimal (n / 10) ++ ((48 + n % 10) ∷ [])
unfolding decimal
decimal_step n large =
    digits_more n n large ∙ ap (λ s. s ++ last_digit n) (digits-bound n (suc (n / 10)) (n / 10) (omega arith) (omega arith))

pub decimal-longer : (n : ℕ) → 10 ≤ n → length (decimal n) ≡ length (decimal (n / 10)) + 1
decimal-longer n large = rw (decimal_step n large, length-append)

-- A number has a digit, and no more than the power of ten that it lies below.
pub decimal-some : (n : ℕ) → 1 ≤ length (decimal n)
decimal-some =
    by-tenths (λ n. 1 ≤ length (decimal n))
    (λ n small. rw (decimal_digit n small) (omega arith))
    (λ n large tenth. omega (arith, decimal-longer n large))

within_more : (n k : ℕ) → 10 ≤ n → ((j : ℕ) → n / 10 < 10 ^ suc j → length (decimal (n / 10)) ≤ suc j) → n < 10 ^ suc k
    → length (decimal n) ≤ suc k
within_more n zero large tenth h = absurd (omega arith)
within_more n (suc k) large tenth h = omega (arith, decimal-longer n large, tenth k (omega (arith, pow-suc 10 (suc k))))

pub decimal-within : (n k : ℕ) → n < 10 ^ suc k → length (decimal n) ≤ suc k
decimal-within =
    by-tenths (λ n. (k : ℕ) → n < 10 ^ suc k → length (decimal n) ≤ suc k)
    (λ n small k h. rw (decimal_digit n small) (omega arith))
    (λ n large tenth k h. within_more n k large tenth h)

-- A number that fits a machine word has at most 20 digits.
pub decimal-short : (n : ℕ) → n < 2 ^ 64 → length (decimal n) ≤ 20
decimal-short n h = decimal-within n 19 (omega arith)

one-digit : (n : ℕ) → n < 10 → every digit ((48 + n) ∷ []) ≡ true
unfolding every
one-digit n small = and_both (and_both (le-leb 48 (48 + n) (omega arith)) (le-leb (48 + n) 57 (omega arith))) refl

pub decimal-digits : (n : ℕ) → every digit (decimal n) ≡ true
decimal-digits =
    by-tenths (λ n. every digit (decimal n) ≡ true)
    (λ n small. rw (decimal_digit n small) (one-digit n small))
    (λ n large tenth. rw (decimal_step n large) (every-both digit (decimal (n / 10)) _ tenth (one-digit (n % 10) (omega arith))))

-- What a digit is worth is below ten.
pub digit-range : (b : ℕ) → digit b ≡ true → (48 ≤ b) × (b ≤ 57)
digit-range b h = (leb-true 48 b (and_left (leb 48 b) _ h), leb-true b 57 (and_right (leb 48 b) _ h))

-- Digits behind a number make it no smaller, and each makes its bound ten times as large.
value_grows : (n : ℕ) (s : List ℕ) → n ≤ value_after n s
unfolding value_after
value_grows n [] = omega arith
value_grows n (b ∷ s) = omega (arith, value_grows (n * 10 + (b - 48)) s)

value-below : (k n : ℕ) (s : List ℕ) → n < 10 ^ k → every digit s ≡ true → value_after n s < 10 ^ (k + length s)
unfolding value_after every
value-below k n [] h p = rw add-zero h
value-below k n (b ∷ s) h p =
    let range : (48 ≤ b) × (b ≤ 57) = digit-range b (and_left (digit b) _ p) in
    let more : n * 10 + (b - 48) < 10 ^ suc k = omega (arith, pow-suc 10 k) in
    let same : suc k + length s ≡ k + suc (length s) = omega arith in
    rw same at (value-below (suc k) (n * 10 + (b - 48)) s more (and_right (digit b) _ p))

-- Digits write a number below the power of ten that has a digit more.
pub value-within : (most : ℕ) (s : List ℕ) → length s ≤ most → every digit s ≡ true → value s < 10 ^ most
value-within most s short p =
    let power : 10 ^ (0 + length s) ≤ 10 ^ most = pow-le-pow_right (omega arith) {j = most} (omega arith) in
    omega (arith, value-below 0 0 s (omega arith) p)

value-append : (n : ℕ) (s t : List ℕ) → value_after n (s ++ t) ≡ value_after (value_after n s) t
unfolding value_after
value-append n [] t = refl
value-append n (b ∷ s) t = value-append (n * 10 + (b - 48)) s t

-- The digits of a number are worth it.
pub value-decimal : (n : ℕ) → value (decimal n) ≡ n
unfolding value_after
value-decimal =
    by-tenths (λ n. value (decimal n) ≡ n)
    (λ n small. rw (decimal_digit n small) (omega arith))
    (λ n large tenth. rw (decimal_step n large, value-append, tenth) (omega arith))

-- n is the number that the first i digits write, of no more than a machine word has room for.
pub record Valued (s : List ℕ) (n i : ℕ) : Type 0 where
  pub digits : every digit s ≡ true
  pub short : length s ≤ word_digits
  pub within : i ≤ length s
  pub rest : value s ≡ value_after n (drop i s)

module _ {s : List ℕ} {n i : ℕ} (so_far : Valued s n i) where
  pub valued-all : length s ≤ i → n ≡ value s
  unfolding value_after
  valued-all end = sym (so_far.rest ∙ rw drop_of_length-le)

  module _ (more : i < length s) where
    -- The next byte is a digit, which leads to the next number; and that fits a machine word.
    pub valued-digit : (48 ≤ get_or s i 0) × (get_or s i 0 ≤ 57)
    valued-digit = digit-range (get_or s i 0) (every-at digit s i so_far.digits more)

    pub valued-more : Valued s (n * 10 + (get_or s i 0 - 48)) (i + 1)
    unfolding value_after
    valued-more = record {
      digits = so_far.digits;
      short = so_far.short;
      within = omega arith;
      rest = so_far.rest ∙ rw (add-one, drop-cons s i 0);
    }

    pub valued_fits : n * 10 + (get_or s i 0 - 48) < 10 ^ word_digits
    valued_fits =
        let all : value s < 10 ^ word_digits = value-within word_digits s so_far.short so_far.digits in
        omega (arith, valued-more.rest, value_grows (n * 10 + (get_or s i 0 - 48)) (drop (i + 1) s))

-- What the test of a number of at most so many digits tells of the bytes that pass.
pub record Numeral (most : ℕ) (s : List ℕ) : Type 0 where
  pub some : 1 ≤ length s
  pub few : length s ≤ most
  pub digits : every digit s ≡ true
  pub front : (eqb (length s) 1 || not (eqb (get_or s 0 0) 48)) ≡ true

-- The test as code runs it, the length first; and what is read.
module _ (most : ℕ) (s : List ℕ) where
  pub number_short : length s < 1 → false ≡ is_number most s
  unfolding is_number
  number_short h = rw (lt-leb 1)

  pub number-long : most < length s → false ≡ is_number most s
  unfolding is_number
  number-long h = rw (lt-leb (length s) most, and-false)

  pub number-tests : {digits : Bool} → 1 ≤ length s → length s ≤ most → digits ≡ every digit s
      → (digits && (eqb (length s) 1 || not (eqb (get_or s 0 0) 48))) ≡ is_number most s
  unfolding is_number
  number-tests some few e = rw (e, le-leb 1, le-leb (length s) most)

  pub number_is : is_number most s ≡ true → Numeral most s
  unfolding is_number
  number_is yes-it-is =
      let sized : Bool = leb 1 (length s) && leb (length s) most in
      let bytes : (sized && every digit s) ≡ true = and_left (sized && every digit s) _ yes-it-is in
      let lengths : sized ≡ true = and_left sized _ bytes in record {
        some = leb-true 1 (length s) (and_left (leb 1 (length s)) _ lengths);
        few = leb-true (length s) most (and_right (leb 1 (length s)) _ lengths);
        digits = and_right sized _ bytes;
        front = and_right (sized && every digit s) _ yes-it-is;
      }

  pub number_read : is_number most s ≡ true → Some (value s) ≡ number_of most s
  unfolding number_of
  number_read yes-it-is = sym (cond-true _ _ yes-it-is)

  pub number-unread : is_number most s ≡ false → None ≡ number_of most s
  unfolding number_of
  number-unread no-it-is = sym (cond-false _ _ no-it-is)
