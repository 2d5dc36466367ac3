-- Newlines and lines of a text. (01, the window: lines, cursor.)
use Rattle.std.specs.Prelude.{◌≡◌, ◌≤◌, List, [], ◌∷◌, true, not, cond, ℕ, suc, ◌-◌, eqb, length}
use Rattle.gap.specs.Rules.Sequence.{every, part}

-- The byte between two lines.
abbrev pub newline : ℕ
newline = 10

-- How many newlines a text has.
unfoldable pub newlines : List ℕ → ℕ
newlines [] = 0
newlines (b ∷ s) = cond (eqb b newline) (suc (newlines s)) (newlines s)

-- How far the end of a text is from the start of its line, if the text follows n bytes of that line.
unfoldable pub since_after : ℕ → List ℕ → ℕ
since_after n [] = n
since_after n (b ∷ s) = since_after (cond (eqb b newline) 0 (suc n)) s

abbrev pub since : List ℕ → ℕ
since s = since_after 0 s

-- The text cut at its newlines: always one line more than there are newlines, so at least one.
abbrev pub longer : ℕ → List (List ℕ) → List (List ℕ)
longer b [] = (b ∷ []) ∷ []
longer b (first ∷ rest) = (b ∷ first) ∷ rest

unfoldable pub lines : List ℕ → List (List ℕ)
lines [] = [] ∷ []
lines (b ∷ s) = cond (eqb b newline) ([] ∷ lines s) (longer b (lines s))

-- There is no newline from place a up to place e.
pub record Unbroken (s : List ℕ) (a e : ℕ) : Type 0 where
  pub low : a ≤ e
  pub high : e ≤ length s
  pub bytes : every (λ b. not (eqb b newline)) (part a (e - a) s) ≡ true
