-- Spaces at the beginning of a line. (02, M-105: NEWLINE.)
use Rattle.std.specs.Prelude.{List, [], ◌∷◌, cond, ℕ, suc, ◌-◌, eqb, length, drop, replicate}
use Rattle.gap.specs.Rules.Lines.{since}

abbrev pub space : ℕ
space = 32

-- n spaces.
unfoldable pub spaces : ℕ → List ℕ
spaces n = replicate n space

-- How many spaces a text begins with.
unfoldable pub leading : List ℕ → ℕ
leading [] = 0
leading (b ∷ s) = cond (eqb b space) (suc (leading s)) 0

-- What a text has of its last line: of the text left of a cursor, the current line left of that cursor.
abbrev pub current_line : List ℕ → List ℕ
current_line l = drop (length l - since l) l

-- The leading spaces that the current line has left of the cursor; what lies right of it does not count. (02, M-105. DECISIONS C23.)
unfoldable pub indent : List ℕ → ℕ
indent l = leading (current_line l)
