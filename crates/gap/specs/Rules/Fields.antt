-- Lines by their places, and lines that have a word and a number. (01, the bench program.)
use Rattle.std.specs.Prelude.{List, [], ◌∷◌, ◌++◌, Bool, cond, ℕ, suc, ◌+◌, eqb, ltb, length, take, drop, Option, None}
use Rattle.gap.specs.Rules.Sequence.{begins}
use Rattle.gap.specs.Rules.Lines.{newline, newlines}
use Rattle.gap.specs.Rules.Decimal.{number_of, decimal}

-- ---- Lines

-- What stands before the first newline, or everything where there is none.
unfoldable pub line_of : List ℕ → List ℕ
line_of [] = []
line_of (b ∷ s) = cond (eqb b newline) [] (b ∷ line_of s)

-- The line that starts at a place; where it ends; whether a newline is there; and where the next line starts.
unfoldable pub line_at : List ℕ → ℕ → List ℕ
line_at s at = line_of (drop at s)

unfoldable pub end_at : List ℕ → ℕ → ℕ
end_at s at = at + length (line_at s at)

abbrev pub ended : List ℕ → ℕ → Bool
ended s at = ltb (end_at s at) (length s)

unfoldable pub next_at : List ℕ → ℕ → ℕ
next_at s at = cond (ended s at) (suc (end_at s at)) (end_at s at)

-- The number of the line that starts at a place: newlines before it count, whatever they stand in. (01, the bench program: line
-- number. DECISIONS A7.)
unfoldable pub line_number : List ℕ → ℕ → ℕ
line_number s at = suc (newlines (take at s))

-- ---- Fields

-- A word and the number behind it, of at most so many digits.
unfoldable pub field_of : List ℕ → ℕ → List ℕ → Option ℕ
field_of word most line = cond (begins word line) (number_of most (drop (length word) line)) None

-- The same of the line that starts at a place, if it ends in a newline.
unfoldable pub header_at : List ℕ → ℕ → List ℕ → ℕ → Option ℕ
header_at word most s at = cond (ended s at) (field_of word most (line_at s at)) None

-- Such a line as it is written: a word, a number, a newline.
unfoldable pub entry : List ℕ → ℕ → List ℕ
entry word n = word ++ (decimal n ++ (newline ∷ []))
