-- Laws of the window: its size and cells, the policy, and which bytes it can show.
use mathlib.Core.Path.{◌≡◌, refl, sym, ap₂, ◌∙◌}
use mathlib.Core.Bool.{Bool, true, false, ◌&&◌, cond}
use mathlib.Core.List.{List, [], ◌∷◌, ◌++◌, map}
use Prim.Native.Nat.{ℕ, zero, suc, ◌+◌, ◌-◌, ◌*◌, ◌≤◌, ◌<◌}
use native.Mathlib.Nat.{zero-mul, suc-mul}
use native.Mathlib.Omega.{arith}
use lib.Dec.{leb, ltb}
use lib.ListN.{length, get_or, length-append, length-map, get_or-append}
use lib.Seq.{get_or-append-add}
use borrow.Author.Tests.{ltb-true, ltb-false, leb-true, leb-false, lt-ltb, le-ltb, le-leb, lt-leb}
use Rattle.gap.specs.Rules.Sequence.{every, counted}
use Rattle.gap.specs.Rules.Doc.{Doc, content}
use Rattle.gap.specs.Rules.Lines.{lines}
use Rattle.gap.specs.Rules.Layout.{printable, allowed}
use Rattle.gap.proofs.Laws.Tests.{and_left, and_right, and_both}
use Rattle.gap.proofs.Laws.Lines.{lines-every}
use Rattle.gap.proofs.Laws.Sequence.{every-both, every-left, every-right, length-counted, every-or, every_map, at-counted-map}
use Rattle.window.specs.Words.{Mode, Main, Quoted, Frame}
use Rattle.window.specs.Rules.Window.{virtual_in, row_of, column_of, cell, row_cells, joined, window, visible}
use Rattle.window.specs.Rules.Window.{policy_row, policy_column, policy}

-- Rows of one width, put together: their length, and what stands in row i, column j, both counted from 0.
module _ (row : ℕ → List ℕ) (w : ℕ) (wide : (i : ℕ) → length (row i) ≡ w) where
  length-joined : (h k : ℕ) → length (joined (map row (counted h k))) ≡ h * w
  unfolding joined counted
  length-joined zero k = sym (zero-mul w)
  length-joined (suc h) k = rw (length-append, suc-mul) (omega (arith, wide k, length-joined h (suc k)))

  at_joined : (h k i j e : ℕ) → i < h → j < w → get_or (joined (map row (counted h k))) (i * w + j) e ≡ get_or (row (k + i)) j e
  unfolding joined counted
  at_joined zero k i j e below inside = absurd (omega arith)
  at_joined (suc h) k zero j e below inside =
      let at : 0 * w + j ≡ j = omega (arith, zero-mul w) in
      let here : k + 0 ≡ k = omega arith in
      rw (at, here) (get_or-append (row k) _ e j (omega (arith, wide k)))
  at_joined (suc h) k (suc i) j e below inside =
      let at : suc i * w + j ≡ length (row k) + (i * w + j) = omega (arith, suc-mul i w, wide k) in
      let there : k + suc i ≡ suc k + i = omega arith in
      rw (at, there) (get_or-append-add (row k) _ (i * w + j) e ∙ at_joined h (suc k) i j e (omega arith) inside)

length-row : (f : Frame) (ls : List (List ℕ)) (i : ℕ) → length (row_cells f ls i) ≡ f.w
unfolding row_cells
length-row f ls i = length-map (counted f.w 1) (cell f ls i) ∙ length-counted f.w 1

pub length-window : (f : Frame) (d : Doc) → length (window f d) ≡ f.h * f.w
unfolding window
length-window f d = let ls = lines (content d) in length-joined (row_cells f ls) f.w (length-row f ls) f.h 1

-- Row i, column j of the window is the cell of that row and column.
pub window-cell : (f : Frame) (d : Doc) (i j : ℕ) → 1 ≤ i → i ≤ f.h → 1 ≤ j → j ≤ f.w
    → get_or (window f d) ((i - 1) * f.w + (j - 1)) 32 ≡ cell f (lines (content d)) i j
unfolding window row_cells
window-cell f d i j low high left right =
    let ls = lines (content d) in
    let row : 1 + (i - 1) ≡ i = omega arith in
    let column : 1 + (j - 1) ≡ j = omega arith in
    at_joined (row_cells f ls) f.w (length-row f ls) f.h 1 (i - 1) (j - 1) 32 (omega arith) (omega arith)
    ∙ at-counted-map (cell f ls (1 + (i - 1))) 32 f.w 1 (j - 1) (omega arith)
    ∙ ap₂ (cell f ls) row column

-- What the test of visibility says of the cursor's row and column.
pub record Visible (f : Frame) (row column : ℕ) : Type 0 where
  pub top : f.r < row
  pub bottom : row ≤ f.r + f.h
  pub left : f.c ≤ column
  pub right : column ≤ f.c + f.w

pub visible-says : (f : Frame) (d : Doc) → visible f d ≡ true → Visible f (row_of d) (column_of d)
unfolding visible
visible-says f d e =
    let rows = and_left (ltb f.r (row_of d) && leb (row_of d) (f.r + f.h)) _ e in
    let columns = and_right (ltb f.r (row_of d) && leb (row_of d) (f.r + f.h)) _ e in
    record {
      top = ltb-true _ _ (and_left (ltb f.r (row_of d)) _ rows);
      bottom = leb-true _ _ (and_right (ltb f.r (row_of d)) _ rows);
      left = leb-true _ _ (and_left (leb f.c (column_of d)) _ columns);
      right = leb-true _ _ (and_right (leb f.c (column_of d)) _ columns);
    }

pub says-visible : (f : Frame) (d : Doc) → Visible f (row_of d) (column_of d) → visible f d ≡ true
unfolding visible
says-visible f d v =
    and_both (and_both (lt-ltb _ _ v.top) (le-leb _ _ v.bottom))
    (and_both (le-leb _ _ v.left) (le-leb _ _ v.right))

row_within : (r h row : ℕ) (above below : Bool) → leb row r ≡ above → ltb (r + h) row ≡ below → 1 ≤ h → 1 ≤ row
    → let new = cond above (row - 1) (cond below (row - h) r) in (new < row) × (row ≤ new + h)
row_within r h row true below p q tall one = omega arith
row_within r h row false true p q tall one = omega (arith, ltb-true (r + h) row q)
row_within r h row false false p q tall one = omega (arith, leb-false row r p, ltb-false (r + h) row q)

column-within : (c w column : ℕ) (before after : Bool) → ltb column c ≡ before → ltb (c + w) column ≡ after
    → let new = cond before column (cond after (column - w) c) in (new ≤ column) × (column ≤ new + w)
column-within c w column true after p q = omega arith
column-within c w column false true p q = omega (arith, ltb-true (c + w) column q)
column-within c w column false false p q = omega (arith, ltb-false column c p, ltb-false (c + w) column q)

-- The policy makes the cursor visible, on a screen of one row or more.
pub policy-visible : (f : Frame) (d : Doc) → 1 ≤ f.h → visible (policy f d) d ≡ true
unfolding policy
policy-visible f d tall =
    let rows = row_within f.r f.h (row_of d) _ _ refl refl tall (omega arith) in
    let columns = column-within f.c f.w (column_of d) _ _ refl refl in
    says-visible (policy f d) d (record { top = rows.0; bottom = rows.1; left = columns.0; right = columns.1 })

-- The policy keeps the offsets under which the cursor is visible.
pub policy-keeps : (f : Frame) (d : Doc) → visible f d ≡ true → policy f d ≡ f
unfolding policy
policy-keeps f d e =
    let v = visible-says f d e in
    let row : policy_row f (row_of d) ≡ f.r = rw (lt-leb _ _ v.top, le-ltb _ _ v.bottom) in
    let column : policy_column f (column_of d) ≡ f.c = rw (le-ltb _ _ v.left, le-ltb _ _ v.right) in
    λ i. record { r = row i; c = column i; h = f.h; w = f.w }

module _ (test : ℕ → Bool) where
  every-joined : (row : ℕ → List ℕ) (s : List ℕ) → ((k : ℕ) → every test (row k) ≡ true) → every test (joined (map row s)) ≡ true
  unfolding every joined
  every-joined row [] all = refl
  every-joined row (k ∷ s) all = every-both test (row k) (joined (map row s)) (all k) (every-joined row s all)

-- A window of allowed text has only bytes 32 to 126.
pub window-printable : (f : Frame) (d : Doc) → every allowed (content d) ≡ true → every printable (window f d) ≡ true
unfolding window row_cells
window-printable f d ok =
    let ls = lines (content d) in
    every-joined printable (row_cells f ls) (counted f.h 1)
    (λ i. every_map printable (cell f ls i) (counted f.w 1)
    (λ j. every-or printable (get_or ls (f.r + (i - 1)) []) _ 32 (lines-every printable (content d) ok (f.r + (i - 1))) refl))

-- The virtual text is allowed where document and quotation are.
pub virtual-allowed : (m : Mode) (d q : Doc) → every allowed (content d) ≡ true → every allowed (content q) ≡ true
    → every allowed (content (virtual_in m d q)) ≡ true
unfolding every virtual_in
virtual-allowed Main d q ok its = ok
virtual-allowed Quoted d q ok its =
    every-both allowed (d.l ++ (10 ∷ 62 ∷ q.l)) (q.r ++ (10 ∷ d.r))
    (every-both allowed d.l (10 ∷ 62 ∷ q.l) (every-left allowed d.l d.r ok) (every-left allowed q.l q.r its))
    (every-both allowed q.r (10 ∷ d.r) (every-right allowed q.l q.r its) (every-right allowed d.l d.r ok))
