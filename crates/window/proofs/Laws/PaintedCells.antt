-- Laws of the cells that the painter puts: those of the window, on the line of the text where the pen is.
use mathlib.Core.Path.{◌≡◌, sym, ap, ◌∙◌}
use mathlib.Core.Bool.{true, false}
use mathlib.Core.List.{List, [], ◌∷◌, ◌++◌, append-nil}
use Prim.Native.Nat.{ℕ, suc, ◌+◌, ◌-◌, ◌*◌, ◌≤◌, ◌<◌}
use native.Mathlib.Nat.{add-zero}
use native.Mathlib.Omega.{arith}
use lib.Dec.{eqb}
use lib.ListN.{length, take, drop, get_or, replicate, length-replicate, get_or-replicate, get_or-eq_default}
use lib.Seq.{drop-cons, get_or-take, get_or-drop, get_or_at, ext_get_or}
use Rattle.gap.specs.Rules.Sequence.{part}
use Rattle.gap.specs.Rules.Doc.{Doc, content}
use Rattle.gap.specs.Rules.Lines.{newline, newlines, since, lines}
use Rattle.gap.proofs.Laws.Sequence.{length_part}
use Rattle.gap.proofs.Laws.Lines.{newlines-append, length-lines, lines-first, first_line, last_line, length_last, cursor-line}
use Rattle.window.specs.Words.{Frame}
use Rattle.window.specs.Rules.Window.{window}
use Rattle.window.specs.Wording.Painter.{Sheet, across, next_cell}
use Rattle.window.proofs.Laws.Window.{length-window, window-cell}
use Rattle.window.proofs.Laws.Paint.{row_fits, InRow, blanks}

-- The line of the text on which the pen is.
abbrev pub line_of : Doc → ℕ → List ℕ
line_of d y = get_or (lines (content d)) y []

window-at : (f : Frame) (d : Doc) (n m : ℕ) → n < f.h → m < f.w
    → get_or (window f d) (n * f.w + m) 32 ≡ get_or (line_of d (f.r + n)) (f.c + m) 32
window-at f d n m below inside =
    let row : suc n - 1 ≡ n = omega arith in
    let column : suc m - 1 ≡ m = omega arith in
    rw (row, column) at (window-cell f d (suc n) (suc m) (omega arith) (omega arith) (omega arith) (omega arith))

-- The line of the pen, with the text that is painted before it and the text behind it.
module _ (d : Doc) (t u : List ℕ) (whole : content d ≡ t ++ u) where
  line-here : line_of d (newlines t) ≡ last_line t ++ first_line u
  line-here = ap (λ s. get_or (lines s) (newlines t) []) whole ∙ cursor-line t u

  pub line-ends : first_line u ≡ [] → length (line_of d (newlines t)) ≡ since t
  line-ends none = ap length line-here ∙ rw none (ap length (append-nil (last_line t)) ∙ length_last t)

  pub line-goes-on : (b : ℕ) (rest : List ℕ) → first_line u ≡ b ∷ rest → get_or (line_of d (newlines t)) (since t) 32 ≡ b
  line-goes-on b rest some = rw (line-here, some) (get_or_at (last_line t) b rest 32 (since t) (length_last t))

pub no-line-left : (d : Doc) (t : List ℕ) (i : ℕ) → content d ≡ t ++ [] → newlines t < i → length (line_of d i) ≡ 0
unfolding newlines
no-line-left d t i whole less =
    let count : newlines (content d) ≡ newlines t = ap newlines whole ∙ newlines-append t [] ∙ add-zero (newlines t) in
    ap length (get_or-eq_default (lines (content d)) [] {n = i} (omega (arith, length-lines (content d))))

pub first-line-newline : (b : ℕ) (u : List ℕ) → eqb b newline ≡ true → first_line (b ∷ u) ≡ []
unfolding lines
first-line-newline b u e = rw e

pub first-line-letter : (b : ℕ) (u : List ℕ) → eqb b newline ≡ false → first_line (b ∷ u) ≡ b ∷ first_line u
unfolding lines
first-line-letter b u e = rw (e, lines-first u)

-- The cells that a letter and the end of a line put are those of the window.
one_cell : (s : List ℕ) (k : ℕ) → k < length s → get_or s k 32 ∷ [] ≡ part k 1 s
unfolding part
one_cell s k inside = ap (take 1) (sym (drop-cons s k 32 inside))

blank-cells : (s : List ℕ) (a k : ℕ) → a + k ≤ length s → ((j : ℕ) → j < k → get_or s (a + j) 32 ≡ 32) → replicate k 32 ≡ part a k s
unfolding part
blank-cells s a k fits blank =
    ext_get_or 32 (replicate k 32) (take k (drop a s)) (length-replicate {A = ℕ} k 32 ∙ sym (length_part a k s fits))
    (λ j inside.
    let less : j < k = rw length-replicate at inside in
    get_or-replicate k j 32 32 less ∙ sym (get_or-take k (drop a s) j 32 less ∙ get_or-drop a s j 32 ∙ blank j less))

module _ (f : Frame) (d : Doc) (p : Sheet) (h : InRow f p.pen.y p.screen) where
  row-fits-window : (p.pen.y - f.r) * f.w + f.w ≤ length (window f d)
  row-fits-window = omega (arith, length-window f d, row_fits (p.pen.y - f.r) f.h f.w (omega arith))

  cell_at : (m : ℕ) → m < f.w → get_or (window f d) ((p.pen.y - f.r) * f.w + m) 32 ≡ get_or (line_of d p.pen.y) (f.c + m) 32
  cell_at m inside =
      let line : f.r + (p.pen.y - f.r) ≡ p.pen.y = omega arith in
      window-at f d (p.pen.y - f.r) m (omega arith) inside ∙ ap (λ y. get_or (line_of d y) (f.c + m) 32) line

  pub letter-cell : (b : ℕ) → f.c ≤ p.pen.x → p.pen.x < f.c + f.w → get_or (line_of d p.pen.y) p.pen.x 32 ≡ b
      → b ∷ [] ≡ part (next_cell f p.pen) 1 (window f d)
  letter-cell b left right this =
      let inside : across f p.pen < f.w = omega arith in
      let column : f.c + across f p.pen ≡ p.pen.x = omega arith in
      ap (λ a. a ∷ [])
      (sym (cell_at (across f p.pen) inside ∙ ap (λ x. get_or (line_of d p.pen.y) x 32) column ∙ this))
      ∙ one_cell (window f d) (next_cell f p.pen) (omega (arith, row-fits-window))

  pub blanks-cells : length (line_of d p.pen.y) ≡ p.pen.x → blanks f p ≡ part (next_cell f p.pen) (length (blanks f p)) (window f d)
  blanks-cells all =
      rw length-replicate
      (blank-cells (window f d) (next_cell f p.pen) (f.w - across f p.pen) (omega (arith, row-fits-window)) blank)
    where
      blank : (j : ℕ) → j < f.w - across f p.pen → get_or (window f d) (next_cell f p.pen + j) 32 ≡ 32
      blank j less =
          let on : (p.pen.y - f.r) * f.w + (across f p.pen + j) ≡ next_cell f p.pen + j = omega arith in
          ap (λ k. get_or (window f d) k 32) (sym on)
          ∙ cell_at (across f p.pen + j) (omega arith)
          ∙ get_or-eq_default (line_of d p.pen.y) 32 {n = f.c + (across f p.pen + j)} (omega arith)
