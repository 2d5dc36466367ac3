-- Decimal numbers as they are read and as they are written. (01, the bench program: numbers; 02, M-100: numbers.)
use Rattle.std.specs.Prelude.{List, [], ◌∷◌, ◌++◌, Bool, not, ◌&&◌, ◌||◌, cond, ℕ, zero, suc, ◌+◌, ◌-◌, ◌*◌, ◌/◌, ◌%◌, eqb, leb, ltb, length, get_or, Option, Some, None}
use Rattle.gap.specs.Rules.Sequence.{every}

-- `0` to `9`, and what each is worth.
abbrev pub digit : ℕ → Bool
digit b = leb 48 b && leb b 57

abbrev pub worth : ℕ → ℕ
worth b = b - 48

-- The number that digits write, if they follow those of n.
unfoldable pub value_after : ℕ → List ℕ → ℕ
value_after n [] = n
value_after n (b ∷ s) = value_after (n * 10 + worth b) s

abbrev pub value : List ℕ → ℕ
value s = value_after 0 s

-- 1 to so many digits, and no zero in front but 0 itself. (01, the bench program: numbers. DECISIONS A14.)
unfoldable pub is_number : ℕ → List ℕ → Bool
is_number most s =
    ((leb 1 (length s) && leb (length s) most) && every digit s) && (eqb (length s) 1 || not (eqb (get_or s 0 0) 48))

unfoldable pub number_of : ℕ → List ℕ → Option ℕ
number_of most s = cond (is_number most s) (Some (value s)) None

-- Whatever so many digits write fits a machine word.
abbrev pub word_digits : ℕ
word_digits = 19

-- The digits of n without a zero in front; no more than the first argument says.
unfoldable pub digits_in : ℕ → ℕ → List ℕ
digits_in zero n = []
digits_in (suc most) n = cond (ltb n 10) ((48 + n) ∷ []) (digits_in most (n / 10) ++ ((48 + n % 10) ∷ []))

-- A number has fewer digits than it counts, or one, so that this bound leaves out none.
unfoldable pub decimal : ℕ → List ℕ
decimal n = digits_in (suc n) n
