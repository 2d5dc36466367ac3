-- The bytes that bring a terminal up to date, in sequences of ECMA-48. (02, M-100.)
use Rattle.std.specs.Prelude.{List, [], ◌∷◌, ◌++◌, map, cond, ℕ, suc, ◌+◌, ◌-◌, eqb, ltb}
use Rattle.gap.specs.Rules.Sequence.{counted}
use Rattle.gap.specs.Rules.Decimal.{decimal}
use Rattle.window.specs.Rules.Window.{joined}
use Rattle.window.specs.Rules.Rows.{screen_row}

-- ESC `[` row `;` column `H`: the terminal goes on at this spot, rows and columns from 1. (M-100: ESC, decimal.)
unfoldable pub sent_spot : ℕ → ℕ → List ℕ
sent_spot row column = 27 ∷ 91 ∷ (decimal row ++ (59 ∷ (decimal column ++ (72 ∷ []))))

-- Row i: the spot of its first cell, and then its W cells. (M-100: each named row.)
unfoldable pub sent_row : ℕ → List ℕ → ℕ → List ℕ
sent_row W screen i = sent_spot i 1 ++ screen_row W i screen

-- How many rows are named; first = 0 names none. (M-100: 0 and 0 name none.)
abbrev pub row_count : ℕ → ℕ → ℕ
row_count first last = cond (eqb first 0) 0 (suc last - first)

-- The named rows, one behind the other. (M-100: for each named row.)
unfoldable pub sent_rows : ℕ → ℕ → ℕ → List ℕ → List ℕ
sent_rows W first last screen = joined (map (sent_row W screen) (counted (row_count first last) first))

-- A terminal's columns count from 1, and it has none behind the last: the cursor's column plus 1, or W. (M-100: or W.)
abbrev pub sent_column : ℕ → ℕ → ℕ
sent_column W column = cond (ltb column W) (column + 1) W

-- All of it: the named rows, and then the cursor's spot. (M-100: at the end.)
unfoldable pub sent_screen : ℕ → ℕ → ℕ → ℕ → ℕ → List ℕ → List ℕ
sent_screen W first last row column screen = sent_rows W first last screen ++ sent_spot row (sent_column W column)
