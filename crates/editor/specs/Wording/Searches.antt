-- How the promises of a search's parts speak: which matches they look at, and where a match may begin.
use Rattle.std.specs.Prelude.{◌≡◌, ◌≤◌, ◌<◌, get_or, List, Bool, ◌&&◌, ℕ, ◌+◌, ◌-◌, eqb, length, drop}
use Rattle.editor.specs.Words.{Direction, Left, Right, Neighbour}
use Rattle.gap.specs.Rules.Sequence.{begins}
use Rattle.gap.specs.Rules.Doc.{Doc}
use Rattle.editor.specs.Rules.Places.{left_of, right_of, line_beginning, line_ending}

-- The lowest of the places that are d to e bytes away from the cursor, in the text of n bytes that ends or begins there.
abbrev pub lowest : Direction → ℕ → ℕ → ℕ → ℕ
lowest Left n d e = n - e
lowest Right n d e = d

-- The document whose cursor stands where that text ends or begins.
abbrev pub facing : Direction → List ℕ → List ℕ → Doc
facing Left text other = record { l = text; r = other }
facing Right text other = record { l = other; r = text }

-- What stands beside the cursor in a direction, and whether that makes its place an end of a line: one where the line begins, to the
-- left, and one where it ends, to the right.
abbrev pub beside : Direction → Doc → Neighbour
beside Left d = left_of d
beside Right d = right_of d

abbrev pub line_end : Direction → Doc → Bool
line_end Left d = line_beginning d
line_end Right d = line_ending d

-- In that text, a match begins d bytes away.
abbrev pub match_away : Direction → List ℕ → List ℕ → ℕ → Bool
match_away way pattern text d = begins pattern (drop (lowest way (length text) d d) text)

-- In a whole text with the cursor at place l, a match begins d bytes left of the cursor; it may reach across.
abbrev pub match_left : List ℕ → ℕ → List ℕ → ℕ → Bool
match_left pattern l text d = begins pattern (drop (l - d) text)

-- There is room for the pattern in that text wherever a match may begin from `from` on and below `to` bytes away.
pub record Reach (way : Direction) (pattern text : List ℕ) (from to : ℕ) : Type 0 where
  pub order : from ≤ to
  pub end : to ≤ length text + 1
  pub room : (d : ℕ) → from ≤ d → d < to → lowest way (length text) d d + length pattern ≤ length text

-- A match may begin at this place: the first byte of the pattern, the one at k and the last stand where they would.
abbrev pub likely_at : List ℕ → ℕ → List ℕ → ℕ → Bool
likely_at pattern k text at =
    (eqb (get_or text at 0) (get_or pattern 0 0) && eqb (get_or text (at + k) 0) (get_or pattern k 0))
    && eqb (get_or text (at + (length pattern - 1)) 0) (get_or pattern (length pattern - 1) 0)

-- The byte at k is the first that differs from the first of all; if none does, it is the last.
pub record Telling (s : List ℕ) (k : ℕ) : Type 0 where
  pub within : k < length s
  pub before : (j : ℕ) → j < k → get_or s j 0 ≡ get_or s 0 0
  pub differs : k + 1 < length s → get_or s k 0 ≡ get_or s 0 0 → ⊥
