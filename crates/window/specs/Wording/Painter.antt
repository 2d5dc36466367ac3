-- What the painter does, byte by byte: it writes the cells of the window in the screen's order, each once, and notes the rows in which
-- a cell was another one before. That this gives the window and the named rows is proved in proofs/Laws/Painter.
use Rattle.window.specs.Words.{Frame}
use Rattle.std.specs.Prelude.{◌≡◌, ◌≤◌, ◌<◌, Bool, false, not, ◌&&◌, ◌||◌, cond, Option, None, Some, ℕ, ◌+◌, ◌-◌, ◌*◌, ◌^◌, min, eqb, leb, ltb}
use Rattle.std.specs.Prelude.{List, [], ◌∷◌, length, take, replicate}
use Rattle.gap.specs.Rules.Sequence.{same_bytes, part, patch}
use Rattle.gap.specs.Rules.Doc.{times}
use Rattle.gap.specs.Rules.Lines.{newline, newlines, since_after}
use Rattle.window.specs.declared.Pen.{Pen}
use Rattle.window.specs.declared.Rows.{Rows}
use Rattle.window.specs.declared.painter.Painter.{Painter}
use denote.Ref.{at_last}

-- The pen, which is at a line and a column of the text, both from 0, and the screen.
pub record Sheet : Type 0 where
  pub pen : Pen
  pub screen : List ℕ

-- Before any text.
abbrev pub begun : List ℕ → Sheet
begun screen = record { pen = record { y = 0; x = 0; changed = false; named = None }; screen = screen }

-- The line is above the window, or below it: then painting is over.
abbrev pub above : Frame → Pen → Bool
above f pen = ltb pen.y f.r

abbrev pub over : Frame → Pen → Bool
over f pen = leb (f.r + f.h) pen.y

-- How many cells of the pen's row are painted, and where its next cell is.
abbrev pub across : Frame → Pen → ℕ
across f pen = min (pen.x - f.c) f.w

abbrev pub next_cell : Frame → Pen → ℕ
next_cell f pen = (pen.y - f.r) * f.w + across f pen

-- The cell of a column, in the pen's row; what is asked of the column: it is in the window, or its right edge.
abbrev pub cell_of : Frame → Pen → ℕ → ℕ
cell_of f pen column = (pen.y - f.r) * f.w + (column - f.c)

pub record OnRow (f : Frame) (pen : Pen) (column : ℕ) : Type 0 where
  pub top : f.r ≤ pen.y
  pub bottom : pen.y < f.r + f.h
  pub rows : f.h ≤ 64
  pub columns : f.w ≤ 256
  pub left : f.c ≤ column
  pub right : column ≤ f.c + f.w

-- A run of cells is written; a cell that was another one marks the row.
abbrev pub put : ℕ → List ℕ → Sheet → Sheet
put at cells p =
    record {
      pen =
          record {
            y = p.pen.y;
            x = p.pen.x;
            changed = p.pen.changed || not (same_bytes (part at (length cells) p.screen) cells);
            named = p.pen.named;
          };
      screen = patch at cells p.screen;
    }

-- The pen goes n columns on.
abbrev pub along : ℕ → Sheet → Sheet
along n p =
    record {
      pen = record { y = p.pen.y; x = p.pen.x + n; changed = p.pen.changed; named = p.pen.named };
      screen = p.screen;
    }

-- A byte within a line: a cell where it is in the window.
abbrev pub in_window : Frame → Pen → Bool
in_window f pen = not (above f pen) && (leb f.c pen.x && ltb pen.x (f.c + f.w))

unfoldable pub letter : Frame → ℕ → Sheet → Sheet
letter f b p =
    cond (over f p.pen) p (along 1 (cond (in_window f p.pen) (put (next_cell f p.pen) (b ∷ []) p) p))

-- The rows named, as a call answers them: that none are, by 0 and 0.
abbrev pub rows_in : Option Rows → Rows
rows_in None = record { first = 0; last = 0 }
rows_in (Some rows) = rows

-- Rows that are named are numbered from 1 on, so that 0 and 0 are the numbers of no row named alone.
abbrev pub FromOne : Option Rows → Type 0
FromOne None = Unit {0}
FromOne (Some rows) = 1 ≤ rows.first

-- The rows named so far, and a row below them.
abbrev pub with_row : Option Rows → ℕ → Rows
with_row None row = record { first = row; last = row }
with_row (Some rows) row = record { first = rows.first; last = row }

-- The pen below the end of a line in the window; a marked row is named.
abbrev pub pen_below : Frame → Pen → Bool → Pen
pen_below f pen changed =
    record { y = pen.y + 1; x = 0; changed = false; named = cond changed (Some (with_row pen.named (pen.y - f.r + 1))) pen.named }

-- The end of a line: above the window the pen goes on to the next; in it, the rest of the row is blank.
abbrev pub line_below : Sheet → Sheet
line_below p =
    record {
      pen = record { y = p.pen.y + 1; x = 0; changed = p.pen.changed; named = p.pen.named };
      screen = p.screen;
    }

abbrev pub row_below : Frame → Sheet → Sheet
row_below f p = record { pen = pen_below f p.pen p.pen.changed; screen = p.screen }

unfoldable pub line_end : Frame → Sheet → Sheet
line_end f p =
    cond (over f p.pen) p
    (cond (above f p.pen) (line_below p)
    (row_below f (put (next_cell f p.pen) (replicate (f.w - across f p.pen) 32) p)))

-- A text, and the end of all: the line ends, and so do the empty ones below it.
unfoldable pub paint : Frame → List ℕ → Sheet → Sheet
paint f [] p = p
paint f (b ∷ t) p = paint f t (cond (eqb b newline) (line_end f p) (letter f b p))

unfoldable pub finish_paint : Frame → Sheet → Sheet
finish_paint f p = times (line_end f) (f.r + f.h - p.pen.y) p

-- What a painting function asks of frame, pen and screen, for a text of n bytes: sizes as tabled, and no sum that could wrap.
pub record Easel (f : Frame) (n : ℕ) (p : Sheet) : Type 0 where
  pub long : length p.screen ≡ f.h * f.w
  pub rows : f.h ≤ 64
  pub columns : f.w ≤ 256
  pub offsets : (f.r ≤ 2 ^ 40) × (f.c ≤ 2 ^ 40)
  pub pen : (p.pen.y + n ≤ 2 ^ 40) × (p.pen.x + n ≤ 2 ^ 40)

-- The same before any text, for texts of at most n bytes in all.
pub record Canvas (f : Frame) (n : ℕ) (screen : List ℕ) : Type 0 where
  pub long : length screen ≡ f.h * f.w
  pub rows : f.h ≤ 64
  pub columns : f.w ≤ 256
  pub offsets : (f.r ≤ 2 ^ 40) × (f.c ≤ 2 ^ 40)
  pub short : n ≤ 2 ^ 20

-- Pen and screen as one value.
abbrev pub sheet : Pen → List ℕ → Sheet
sheet pen screen = record { pen = pen; screen = screen }

-- Those of a painter, and the painter with others in their place: its window stays, and the reference to the lent screen. A painting function
-- does with a text what the definition does: pen and screen are determined.
abbrev pub sheet_of : Painter → Sheet
sheet_of t = sheet t.pen t.screen.now

abbrev pub with_sheet : Painter → Sheet → Painter
with_sheet t p = record { screen = at_last t.screen p.screen; frame = t.frame; pen = p.pen }

-- Index at is the start of a line, with k newlines behind it.
pub record LineStart (t : List ℕ) (k at : ℕ) : Type 0 where
  pub within : at ≤ length t
  pub lines : newlines (take at t) + k ≡ newlines t
  pub start : (x : ℕ) → since_after x (take at t) ≡ 0
