-- Virtual text, cursor, window, visibility and policy. (01, the window; 001, sections 2 and 3.)
use Rattle.std.specs.Prelude.{List, [], ◌∷◌, ◌++◌, map, Bool, ◌&&◌, cond, ℕ, suc, ◌+◌, ◌-◌, leb, ltb, get_or}
use Rattle.window.specs.Words.{Mode, Main, Quoted, Frame}
use Rattle.gap.specs.Rules.Sequence.{counted}
use Rattle.gap.specs.Rules.Doc.{Doc, content}
use Rattle.gap.specs.Rules.Lines.{newline, newlines, since, lines}
use Rattle.editor.specs.Rules.Plain.{Plain}

-- What is looked at: in MAIN the document d; in QUOTED the quotation q besides, on lines of its own at the document's cursor, the
-- first begun by `>` (62). (01: virtual text. DECISIONS B16.)
unfoldable pub virtual_in : Mode → Doc → Doc → Doc
virtual_in Main d q = d
virtual_in Quoted d q = record { l = d.l ++ (newline ∷ 62 ∷ q.l); r = q.r ++ (newline ∷ d.r) }

abbrev pub virtual : Plain → Doc
virtual p = virtual_in p.mode p.main.text p.quoted.text

-- Where its cursor stands: rows count from 1, columns from 0. (01: cursor.)
abbrev pub row_of : Doc → ℕ
row_of d = suc (newlines d.l)

abbrev pub column_of : Doc → ℕ
column_of d = since d.l

-- The cell in row i and column j of the screen, both from 1, with the offsets r and c of the frame; blank past the line's end and
-- below the last line. Lists count from 0, so the cell's line is number r + (i - 1). (01: window.)
abbrev pub cell : Frame → List (List ℕ) → ℕ → ℕ → ℕ
cell f ls i j = get_or (get_or ls (f.r + (i - 1)) []) (f.c + (j - 1)) 32

-- The cells of row i, and the whole screen row by row.
unfoldable pub row_cells : Frame → List (List ℕ) → ℕ → List ℕ
row_cells f ls i = map (cell f ls i) (counted f.w 1)

unfoldable pub joined : List (List ℕ) → List ℕ
joined [] = []
joined (s ∷ rest) = s ++ joined rest

unfoldable pub window : Frame → Doc → List ℕ
window f d = joined (map (row_cells f (lines (content d))) (counted f.h 1))

-- The cursor can be shown: its row is one of the H below r, its column one of the W + 1 from c on. (01: visible, column 0.)
unfoldable pub visible : Frame → Doc → Bool
visible f d =
    (ltb f.r (row_of d) && leb (row_of d) (f.r + f.h)) && (leb f.c (column_of d) && leb (column_of d) (f.c + f.w))

-- The offsets move as little as shows the cursor: above the window its row becomes the first, below it the last; left of it its
-- column comes to the left edge, right of it to the right edge. (01: policy. DECISIONS B28.)
abbrev pub policy_row : Frame → ℕ → ℕ
policy_row f row = cond (leb row f.r) (row - 1) (cond (ltb (f.r + f.h) row) (row - f.h) f.r)

abbrev pub policy_column : Frame → ℕ → ℕ
policy_column f column = cond (ltb column f.c) column (cond (ltb (f.c + f.w) column) (column - f.w) f.c)

unfoldable pub policy : Frame → Doc → Frame
policy f d = record { r = policy_row f (row_of d); c = policy_column f (column_of d); h = f.h; w = f.w }
