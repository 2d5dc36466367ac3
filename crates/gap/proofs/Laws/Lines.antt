-- Laws of newlines and lines: of two texts put together, and of the line on which the cursor stands.
use mathlib.Core.Path.{◌≡◌, refl, sym, ap, ◌∙◌}
use mathlib.Core.Bool.{Bool, true, false, ◌||◌, cond}
use mathlib.Core.List.{List, [], ◌∷◌, ◌++◌}
use Prim.Native.Nat.{ℕ, zero, suc, ◌+◌, ◌≤◌, ◌<◌}
use native.Mathlib.Nat.{zero-add}
use native.Mathlib.Omega.{arith}
use lib.Dec.{eqb}
use lib.ListN.{length, take, drop, get_or, length-append, length-take}
use lib.Seq.{get_or_at, length-take-le}
use Rattle.gap.specs.Rules.Sequence.{every}
use Rattle.gap.specs.Rules.Lines.{newline, newlines, since_after, since, longer, lines}
use Rattle.gap.proofs.Laws.Tests.{and_left, and_right, and_both}

-- How one byte in front changes the number of newlines and the lines, by whether it is a newline.
abbrev counting : Bool → ℕ → ℕ
counting is n = cond is (suc n) n

abbrev beginning : Bool → ℕ → List (List ℕ) → List (List ℕ)
beginning is b ls = cond is ([] ∷ ls) (longer b ls)

counting-add : (is : Bool) (m n k : ℕ) → m ≡ n + k → counting is m ≡ counting is n + k
counting-add true m n k e = omega arith
counting-add false m n k e = e

pub newlines-append : (s t : List ℕ) → newlines (s ++ t) ≡ newlines s + newlines t
unfolding newlines
newlines-append [] t = sym (zero-add (newlines t))
newlines-append (b ∷ s) t = counting-add (eqb b newline) _ _ _ (newlines-append s t)

-- What follows s is counted on from the bytes since the last newline of s.
pub since-append : (n : ℕ) (s t : List ℕ) → since_after n (s ++ t) ≡ since_after (since_after n s) t
unfolding since_after
since-append n [] t = refl
since-append n (b ∷ s) t = since-append (cond (eqb b newline) 0 (suc n)) s t

-- There are no more newlines than bytes, in the front of a text too.
counting-fits : (is : Bool) {m n : ℕ} → m ≤ n → counting is m ≤ suc n
counting-fits true h = omega arith
counting-fits false h = omega arith

pub newlines-fit : (s : List ℕ) → newlines s ≤ length s
unfolding newlines
newlines-fit [] = omega arith
newlines-fit (b ∷ s) = counting-fits (eqb b newline) (newlines-fit s)

pub front-newlines : (k : ℕ) (s : List ℕ) → newlines (take k s) ≤ length s
front-newlines k s = omega (arith, newlines-fit (take k s), length-take k s)

-- Nor are there more bytes since the last newline; and without a newline they are all.
since-byte-fits : (is : Bool) (n k : ℕ) (after : ℕ → ℕ) → ((m : ℕ) → after m ≤ m + k) → after (cond is 0 (suc n)) ≤ n + suc k
since-byte-fits true n k after rest = omega (arith, rest 0)
since-byte-fits false n k after rest = omega (arith, rest (suc n))

pub since-fits : (n : ℕ) (s : List ℕ) → since_after n s ≤ n + length s
unfolding since_after
since-fits n [] = omega arith
since-fits n (b ∷ s) = since-byte-fits (eqb b newline) n (length s) (λ m. since_after m s) (λ m. since-fits m s)

since-byte-more : (is : Bool) (n k : ℕ) (s : List ℕ) (after : ℕ → ℕ) → counting is k ≡ 0
    → ((m : ℕ) → k ≡ 0 → after m ≡ m + length s) → after (cond is 0 (suc n)) ≡ n + suc (length s)
since-byte-more true n k s after none rest = absurd (omega arith)
since-byte-more false n k s after none rest = rest (suc n) none ∙ omega arith

pub since-unbroken : (n : ℕ) (s : List ℕ) → newlines s ≡ 0 → since_after n s ≡ n + length s
unfolding newlines since_after
since-unbroken n [] none = omega arith
since-unbroken n (b ∷ s) none =
    since-byte-more (eqb b newline) n (newlines s) s (λ m. since_after m s) none (λ m. since-unbroken m s)

length-beginning : (is : Bool) (b n : ℕ) (ls : List (List ℕ)) → length ls ≡ suc n → length (beginning is b ls) ≡ suc (counting is n)
length-beginning true b n ls e = ap suc e
length-beginning false b n [] e = absurd (omega arith)
length-beginning false b n (first ∷ rest) e = e

pub length-lines : (s : List ℕ) → length (lines s) ≡ suc (newlines s)
unfolding newlines lines
length-lines [] = refl
length-lines (b ∷ s) = length-beginning (eqb b newline) b (newlines s) (lines s) (length-lines s)

beginning-unbroken : (is : Bool) (b : ℕ) (ls : List (List ℕ)) → eqb b newline ≡ is → ((i : ℕ) → newlines (get_or ls i []) ≡ 0)
    → (i : ℕ) → newlines (get_or (beginning is b ls) i []) ≡ 0
unfolding newlines
beginning-unbroken true b ls test all zero = refl
beginning-unbroken true b ls test all (suc i) = all i
beginning-unbroken false b [] test all zero = rw test
beginning-unbroken false b [] test all (suc i) = refl
beginning-unbroken false b (first ∷ rest) test all zero = rw test (all 0)
beginning-unbroken false b (first ∷ rest) test all (suc i) = all (suc i)

-- No line has a newline in it.
pub lines-unbroken : (s : List ℕ) (i : ℕ) → newlines (get_or (lines s) i []) ≡ 0
unfolding newlines lines
lines-unbroken [] zero = refl
lines-unbroken [] (suc i) = refl
lines-unbroken (b ∷ s) i = beginning-unbroken (eqb b newline) b (lines s) refl (lines-unbroken s) i

beginning-every : (test : ℕ → Bool) (is : Bool) (b : ℕ) (ls : List (List ℕ)) → (is || test b) ≡ true
    → ((i : ℕ) → every test (get_or ls i []) ≡ true)
    → (i : ℕ) → every test (get_or (beginning is b ls) i []) ≡ true
unfolding every
beginning-every test true b ls ok all zero = refl
beginning-every test true b ls ok all (suc i) = all i
beginning-every test false b [] ok all zero = and_both ok refl
beginning-every test false b [] ok all (suc i) = refl
beginning-every test false b (first ∷ rest) ok all zero = and_both ok (all 0)
beginning-every test false b (first ∷ rest) ok all (suc i) = all (suc i)

-- What every byte but newlines passes, every byte of each line passes.
pub lines-every : (test : ℕ → Bool) (s : List ℕ) → every (λ b. eqb b newline || test b) s ≡ true
    → (i : ℕ) → every test (get_or (lines s) i []) ≡ true
unfolding every lines
lines-every test [] ok zero = refl
lines-every test [] ok (suc i) = refl
lines-every test (b ∷ s) ok i =
    let here = eqb b newline || test b in
    beginning-every test (eqb b newline) b (lines s) (and_left here _ ok) (lines-every test s (and_right here _ ok)) i

-- The line up to the first newline and the lines after it; the line since the last newline and the lines before it.
abbrev pub first_line : List ℕ → List ℕ
first_line s = get_or (lines s) 0 []

abbrev pub later_lines : List ℕ → List (List ℕ)
later_lines s = drop 1 (lines s)

abbrev pub last_line : List ℕ → List ℕ
last_line s = get_or (lines s) (newlines s) []

abbrev pub earlier_lines : List ℕ → List (List ℕ)
earlier_lines s = take (newlines s) (lines s)

beginning-first : (is : Bool) (b : ℕ) (ls : List (List ℕ)) → beginning is b ls ≡ get_or (beginning is b ls) 0 [] ∷ drop 1 (beginning is b ls)
beginning-first true b ls = refl
beginning-first false b [] = refl
beginning-first false b (first ∷ rest) = refl

pub lines-first : (s : List ℕ) → lines s ≡ first_line s ∷ later_lines s
unfolding lines
lines-first [] = refl
lines-first (b ∷ s) = beginning-first (eqb b newline) b (lines s)

beginning-join : (is : Bool) (b n : ℕ) (ls all : List (List ℕ)) (first : List ℕ) (later : List (List ℕ))
    → length ls ≡ suc n
    → all ≡ take n ls ++ ((get_or ls n [] ++ first) ∷ later)
    → beginning is b all
    ≡ take (counting is n) (beginning is b ls) ++ ((get_or (beginning is b ls) (counting is n) [] ++ first) ∷ later)
beginning-join true b n ls all first later e q = ap (λ x. [] ∷ x) q
beginning-join false b n [] all first later e q = absurd (omega arith)
beginning-join false b zero (s ∷ ls) all first later e q = ap (longer b) q
beginning-join false b (suc n) (s ∷ ls) all first later e q = ap (longer b) q

-- Two texts put together: the last line of the one and the first line of the other become one line.
pub lines-append : (l r : List ℕ) → lines (l ++ r) ≡ earlier_lines l ++ ((last_line l ++ first_line r) ∷ later_lines r)
unfolding newlines lines
lines-append [] r = lines-first r
lines-append (b ∷ l) r =
    beginning-join (eqb b newline) b (newlines l) (lines l) (lines (l ++ r)) _ _ (length-lines l) (lines-append l r)

pub length-earlier : (s : List ℕ) → length (earlier_lines s) ≡ newlines s
length-earlier s = length-take-le (newlines s) (lines s) (omega (arith, length-lines s))

-- n, as long as there is no newline.
abbrev unbroken : ℕ → ℕ → ℕ
unbroken zero n = n
unbroken (suc k) n = 0

unbroken-none : (k : ℕ) → unbroken k 0 ≡ 0
unbroken-none zero = refl
unbroken-none (suc k) = refl

beginning-since : (is : Bool) (b n k : ℕ) (ls : List (List ℕ)) (after : ℕ → ℕ) → length ls ≡ suc k
    → ((m : ℕ) → after m ≡ unbroken k m + length (get_or ls k []))
    → after (cond is 0 (suc n)) ≡ unbroken (counting is k) n + length (get_or (beginning is b ls) (counting is k) [])
beginning-since true b n zero ls after e q = q 0
beginning-since true b n (suc k) ls after e q = q 0
beginning-since false b n k [] after e q = absurd (omega arith)
beginning-since false b n zero (s ∷ ls) after e q = q (suc n) ∙ omega arith
beginning-since false b n (suc k) (s ∷ ls) after e q = q (suc n)

since-line : (n : ℕ) (s : List ℕ) → since_after n s ≡ unbroken (newlines s) n + length (last_line s)
unfolding newlines lines since_after
since-line n [] = omega arith
since-line n (b ∷ s) =
    beginning-since (eqb b newline) b n (newlines s) (lines s) (λ m. since_after m s) (length-lines s) (λ m. since-line m s)

pub length_last : (s : List ℕ) → length (last_line s) ≡ since s
length_last s = omega (arith, since-line 0 s, unbroken-none (newlines s))

-- The cursor between l and r stands on line `newlines l`, counted from 0, right of `since l` bytes of it:
-- the line is what l has since its last newline and then what r has up to its first.
pub cursor-line : (l r : List ℕ) → get_or (lines (l ++ r)) (newlines l) [] ≡ last_line l ++ first_line r
cursor-line l r =
    rw lines-append (get_or_at (earlier_lines l) (last_line l ++ first_line r) (later_lines r) [] (newlines l) (length-earlier l))

pub cursor-line-exists : (l r : List ℕ) → newlines l < length (lines (l ++ r))
cursor-line-exists l r = omega (arith, length-lines (l ++ r), newlines-append l r)

pub cursor-line-reaches : (l r : List ℕ) → since l ≤ length (get_or (lines (l ++ r)) (newlines l) [])
cursor-line-reaches l r = rw (cursor-line, length-append) (omega (arith, length_last l))
