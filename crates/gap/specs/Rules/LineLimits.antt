-- Lines against a limit of bytes. (02, M-106.)
use Rattle.std.specs.Prelude.{List, [], ◌∷◌, Bool, true, ◌&&◌, ◌||◌, ℕ, ◌-◌, eqb, leb, ltb, length, get_or, Option}
use Rattle.gap.specs.Rules.Nearest.{nearest}
use Rattle.gap.specs.Rules.Lines.{newline, lines}
use Rattle.gap.specs.Rules.Fields.{line_at}

-- No line of a text has more bytes than the limit; its newline is not counted. (02, M-106: a line of more than 1,024 bytes, newline not counted.)
unfoldable pub none_longer : ℕ → List (List ℕ) → Bool
none_longer limit [] = true
none_longer limit (line ∷ rest) = leb (length line) limit && none_longer limit rest

unfoldable pub lines_fit : ℕ → List ℕ → Bool
lines_fit limit s = none_longer limit (lines s)

-- A line begins at the front of the text, and behind each newline.
abbrev pub begins_line : List ℕ → ℕ → Bool
begins_line s at = eqb at 0 || eqb (get_or s (at - 1) 0) newline

-- The first place at which a longer line begins. (02, M-106: place the first byte of the first such line.)
unfoldable pub long_line : ℕ → List ℕ → Option ℕ
long_line limit s = nearest (λ at. begins_line s at && ltb limit (length (line_at s at))) (length s) 0
