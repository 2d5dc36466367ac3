-- 001, sections 2 and 3, as document 01 settles them: DISPLAY THEOREM, CURSOR LEMMA, WINDOW THEOREM, and what is required of a policy.
use mathlib.Core.Path.{◌≡◌, refl, sym, ap, ap₂, ◌∙◌}
use mathlib.Core.Logic.{◌↔◌, ◌≢◌}
use mathlib.Core.Bool.{Bool, true, false}
use mathlib.Core.List.{List, [], ◌∷◌, ◌++◌, append-nil}
use Prim.Native.Nat.{ℕ, suc, ◌+◌, ◌-◌, ◌*◌, ◌≤◌, ◌<◌}
use native.Mathlib.Omega.{arith}
use lib.Dec.{eqb}
use lib.ListN.{length, take, drop, get_or, length-append}
use lib.Seq.{take_at, get_or_at}
use borrow.Author.Tests.{eqb-true, eqb-false}
use Rattle.gap.specs.Rules.Doc.{Doc, content}
use Rattle.gap.specs.Rules.Lines.{newlines, lines}
use Rattle.gap.proofs.Laws.Lines.{first_line, later_lines, last_line, earlier_lines, length-lines, length-earlier, length_last}
use Rattle.gap.proofs.Laws.Lines.{lines-first, lines-append, cursor-line-exists, cursor-line-reaches}
use Rattle.gap.proofs.Theorems.Flatten.{flatten, Lines, lines-are-lines, flatten-lines, lines-flatten}
use Rattle.window.specs.Words.{Frame}
use Rattle.window.specs.Rules.Window.{row_of, column_of, window, visible, policy}
use Rattle.window.proofs.Laws.Window.{window-cell, Visible, visible-says, says-visible, policy-visible, policy-keeps}

-- 001, DISP: the lines above the cursor's line, what stands left and right of the cursor, and the lines below.
pub record Display : Type 0 where
  pub above : List (List ℕ)
  pub left : List ℕ
  pub right : List ℕ
  pub below : List (List ℕ)

-- All of them are lines: no newline in any.
pub record WellFormed (x : Display) : Type 0 where
  pub before : Lines (x.above ++ (x.left ∷ []))
  pub after : Lines (x.right ∷ x.below)

-- 001, displays: the display flattened before and after the cursor is the document.
pub record Displays (x : Display) (d : Doc) : Type 0 where
  pub before : flatten (x.above ++ (x.left ∷ [])) ≡ d.l
  pub after : flatten (x.right ∷ x.below) ≡ d.r

-- The lines of a display: its cursor's line is what stands left of the cursor and then what stands right of it.
abbrev pub lines_of : Display → List (List ℕ)
lines_of x = x.above ++ ((x.left ++ x.right) ∷ x.below)

-- The document that a display displays, and the display of a document.
abbrev pub document_of : Display → Doc
document_of x = record { l = flatten (x.above ++ (x.left ∷ [])); r = flatten (x.right ∷ x.below) }

abbrev pub display_of : Doc → Display
display_of d = record { above = earlier_lines d.l; left = last_line d.l; right = first_line d.r; below = later_lines d.r }

split-last : (s : List ℕ) → lines s ≡ earlier_lines s ++ (last_line s ∷ [])
unfolding lines
split-last s = ap lines (sym (append-nil s)) ∙ lines-append s [] ∙ ap (λ x. earlier_lines s ++ (x ∷ [])) (append-nil (last_line s))

is-display : (x : Display) (d : Doc) → WellFormed x → Displays x d → x ≡ display_of d
is-display x d good shows =
    let n = newlines d.l in
    let before : x.above ++ (x.left ∷ []) ≡ lines d.l = sym (lines-flatten _ good.before) ∙ ap lines shows.before in
    let after : x.right ∷ x.below ≡ lines d.r = sym (lines-flatten _ good.after) ∙ ap lines shows.after in
    let size : length x.above ≡ n = omega (arith, simp length-append at (ap length before), length-lines d.l) in
    let above = sym (take_at x.above (x.left ∷ []) n size) ∙ ap (take n) before in
    let left = sym (get_or_at x.above x.left [] [] n size) ∙ ap (λ ls. get_or ls n []) before in
    λ i. record { above = above i; left = left i; right = get_or (after i) 0 []; below = drop 1 (after i) }

-- DISPLAY THEOREM. Every document is displayed by a well-formed display, and every display displays a document.
pub display-well-formed : (d : Doc) → WellFormed (display_of d)
display-well-formed d =
    record { before = rw (← split-last d.l) (lines-are-lines d.l); after = rw (← lines-first d.r) (lines-are-lines d.r) }

pub document-displayed : (d : Doc) → Displays (display_of d) d
document-displayed d =
    record {
      before = ap flatten (sym (split-last d.l)) ∙ flatten-lines d.l;
      after = ap flatten (sym (lines-first d.r)) ∙ flatten-lines d.r;
    }

pub display-displays : (x : Display) → Displays x (document_of x)
display-displays x = record { before = refl; after = refl }

-- Two well-formed displays of one document are the same, and two documents that one display displays are the same.
pub one-display : (x y : Display) (d : Doc) → WellFormed x → WellFormed y → Displays x d → Displays y d → x ≡ y
one-display x y d good fine shows displays = is-display x d good shows ∙ sym (is-display y d fine displays)

pub one-document : (x : Display) (d e : Doc) → Displays x d → Displays x e → d ≡ e
one-document x d e shows displays =
    let before = sym shows.before ∙ displays.before in
    let after = sym shows.after ∙ displays.after in
    λ i. record { l = before i; r = after i }

-- The lines of the display are those of the document's content, and 001's cursor (1 + #above, #left) is row and column.
pub display-lines : (d : Doc) → lines_of (display_of d) ≡ lines (content d)
display-lines d = sym (lines-append d.l d.r)

pub display-cursor : (d : Doc) → (suc (length (display_of d).above) ≡ row_of d) × (length (display_of d).left ≡ column_of d)
display-cursor d = (ap suc (length-earlier d.l), length_last d.l)

-- 001, dom(matrix): row and column, both counted from 1, are those of a byte of the lines.
pub record OnByte (ls : List (List ℕ)) (row column : ℕ) : Type 0 where
  pub row_from : 1 ≤ row
  pub row-to : row ≤ length ls
  pub column-from : 1 ≤ column
  pub column-to : column ≤ length (get_or ls (row - 1) [])

-- The cursor's row is always a line of the content, and its column at most the length of that line.
pub cursor-within : (d : Doc)
    → (row_of d ≤ length (lines (content d))) × (column_of d ≤ length (get_or (lines (content d)) (row_of d - 1) []))
cursor-within d =
    let line : row_of d - 1 ≡ newlines d.l = omega arith in
    (cursor-line-exists d.l d.r, rw line (cursor-line-reaches d.l d.r))

-- CURSOR LEMMA: the cursor stands on a byte, the one to its left, exactly when it is not at column 0.
pub cursor-lemma : (d : Doc) → OnByte (lines (content d)) (row_of d) (column_of d) ↔ (column_of d ≢ 0)
cursor-lemma d =
    let within = cursor-within d in (
      (λ on. omega (arith, on.column-from)),
      (λ inside. record { row_from = omega arith; row-to = within.0; column-from = omega arith; column-to = within.1 }),
    )

-- 001, before the WINDOW THEOREM, a correct projection of the cursor: it is at the left end of a windowed line, or stands right of a
-- byte that is in one of the columns c + 1 to c + W.
pub data ColumnProjected (f : Frame) (d : Doc) : Type 0 where
  left_end : column_of d ≡ f.c → ColumnProjected f d
  right-of-byte : OnByte (lines (content d)) (row_of d) (column_of d) → f.c < column_of d → column_of d ≤ f.c + f.w → ColumnProjected f d

-- Its row on the screen is one of 1 to H.
pub record Projected (f : Frame) (d : Doc) : Type 0 where
  pub row_from : 1 ≤ row_of d - f.r
  pub row-to : row_of d - f.r ≤ f.h
  pub column : ColumnProjected f d

column-projected : (f : Frame) (d : Doc) → Visible f (row_of d) (column_of d) → ColumnProjected f d
column-projected f d v = go (eqb (column_of d) f.c) refl
  where
    go : (same : Bool) → eqb (column_of d) f.c ≡ same → ColumnProjected f d
    go true e = left_end (eqb-true (column_of d) f.c e)
    go false e =
        let apart : column_of d ≢ f.c = eqb-false (column_of d) f.c e in
        right-of-byte ((cursor-lemma d).1 (omega (arith, v.left))) (omega (arith, v.left)) v.right

column-visible : (f : Frame) (d : Doc) → ColumnProjected f d → (f.c ≤ column_of d) × (column_of d ≤ f.c + f.w)
column-visible f d (left_end e) = omega arith
column-visible f d (right-of-byte on low high) = omega arith

-- WINDOW THEOREM: the cursor is visible exactly when it is projected correctly.
pub window-theorem : (f : Frame) (d : Doc) → (visible f d ≡ true) ↔ Projected f d
window-theorem f d = (projected, seen)
  where
    projected : visible f d ≡ true → Projected f d
    projected e =
        let v = visible-says f d e in
        record { row_from = omega (arith, v.top); row-to = omega (arith, v.bottom); column = column-projected f d v }

    seen : Projected f d → visible f d ≡ true
    seen p =
        let sides = column-visible f d p.column in
        let top : f.r < row_of d = omega (arith, p.row_from) in
        says-visible f d (record { top = top; bottom = omega (arith, p.row-to); left = sides.0; right = sides.1 })

-- 01, house rule on column 0: with c = 0 a cursor at column 0 is visible, in each of the H rows.
pub column-0-visible : (f : Frame) (d : Doc) → f.c ≡ 0 → column_of d ≡ 0 → f.r < row_of d → row_of d ≤ f.r + f.h → visible f d ≡ true
column-0-visible f d offset column top bottom =
    (window-theorem f d).1 (record { row_from = omega arith; row-to = omega arith; column = left_end (column ∙ sym offset) })

-- The byte that a visible cursor stands right of is on the screen where the cursor is reported, at row - r and column - c.
-- (Laws/Window, window-cell, says what every other cell shows.)
pub byte-on-screen : (f : Frame) (d : Doc) → visible f d ≡ true → f.c < column_of d
    → get_or (window f d) ((row_of d - f.r - 1) * f.w + (column_of d - f.c - 1)) 32
    ≡ get_or (get_or (lines (content d)) (row_of d - 1) []) (column_of d - 1) 32
byte-on-screen f d e inside =
    let v = visible-says f d e in
    let top : 1 ≤ row_of d - f.r = omega (arith, v.top) in
    let bottom : row_of d - f.r ≤ f.h = omega (arith, v.bottom) in
    let right : column_of d - f.c ≤ f.w = omega (arith, v.right) in
    let row : f.r + (row_of d - f.r - 1) ≡ row_of d - 1 = omega arith in
    let column : f.c + (column_of d - f.c - 1) ≡ column_of d - 1 = omega arith in
    window-cell f d (row_of d - f.r) (column_of d - f.c) top bottom (omega arith) right
    ∙ ap₂ (λ i j. get_or (get_or (lines (content d)) i []) j 32) row column

-- 001, section 3, what is required of a policy: offsets that project the cursor correctly are kept, and others are changed to such.
-- H is 1 to 64 (01, table of stores); the cursor is visible on no screen without rows.
pub policy-requirement : (f : Frame) (d : Doc) → 1 ≤ f.h
    → (visible f d ≡ true → policy f d ≡ f) × (visible f d ≡ false → visible (policy f d) d ≡ true)
policy-requirement f d tall = (policy-keeps f d, λ hidden. policy-visible f d tall)
