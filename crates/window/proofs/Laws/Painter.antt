-- The painter's law: a text painted from its beginning, and all line ends below it, give the window and the named rows.
use mathlib.Core.Path.{◌≡◌, refl, sym, ap, ◌∙◌}
use mathlib.Core.Logic.{⊎_elim}
use mathlib.Core.Bool.{Bool, true, false, cond}
use mathlib.Core.List.{List, [], ◌∷◌, ◌++◌}
use Prim.Native.Nat.{ℕ, zero, suc, ◌+◌, ◌-◌, ◌*◌, ◌≤◌, ◌<◌}
use native.Mathlib.Nat.{add-zero}
use native.Mathlib.Omega.{arith}
use lib.Dec.{eqb}
use lib.ListN.{length, get_or, length-replicate}
use lib.Seq.{append_snoc}
use borrow.Author.Tests.{lt-ltb, le-ltb, le-leb, lt-leb, leb-true}
use Rattle.gap.specs.Rules.Doc.{Doc, content, times}
use Rattle.gap.specs.Rules.Lines.{newline, newlines, since_after, since, lines}
use Rattle.gap.proofs.Laws.Tests.{clash, decided, cond-true}
use Rattle.gap.proofs.Laws.Lines.{newlines-append, since-append, first_line}
use Rattle.window.specs.Words.{Frame}
use Rattle.window.specs.declared.Pen.{Pen}
use Rattle.window.specs.Rules.Window.{window}
use Rattle.window.specs.Rules.Rows.{first_row, last_row}
use Rattle.window.specs.Wording.Painter.{Sheet, begun, above, over, across, next_cell, put, along, letter, line_below, row_below}
use Rattle.window.specs.Wording.Painter.{line_end, paint, finish_paint, rows_in, FromOne}
use Rattle.window.proofs.Laws.Window.{length-window}
use Rattle.window.proofs.Laws.Paint.{byte, paint-over, InRow, letter-fits, blanks, blanks-fit, Lettered, lettered, Ended, ended}
use Rattle.window.proofs.Laws.Paint.{letter-below, letter-higher, letter-before, letter-behind, letter-inside}
use Rattle.window.proofs.Laws.Paint.{end_below, end-higher, end-inside}
use Rattle.window.proofs.Laws.PaintedCells.{line_of, line-ends, line-goes-on, no-line-left, first-line-newline, first-line-letter}
use Rattle.window.proofs.Laws.PaintedCells.{letter-cell, blanks-cells}
use Rattle.window.proofs.Laws.PaintedRows.{Reached, reached-none, reached-moved, reached-at}
use Rattle.window.proofs.Laws.PaintedRows.{reached-long, reached-put, reached-row, reached-all}

-- How many cells of its row the pen has painted: none outside the window.
abbrev shown : Frame → Pen → ℕ
shown f pen = cond (above f pen) 0 (cond (over f pen) 0 (across f pen))

shown-above : (f : Frame) (pen : Pen) → pen.y < f.r → shown f pen ≡ 0
shown-above f pen up = cond-true _ _ (lt-ltb pen.y f.r up)

shown-inside : (f : Frame) (pen : Pen) (screen : List ℕ) → InRow f pen.y screen → shown f pen ≡ across f pen
shown-inside f pen screen h = rw (le-ltb pen.y f.r h.top, lt-leb (f.r + f.h) pen.y h.bottom)

-- At the start of a line there is none either.
shown-start : (f : Frame) (pen : Pen) → pen.x ≡ 0 → shown f pen ≡ 0
shown-start f pen start = go (above f pen) (over f pen)
  where
    go : (a o : Bool) → cond a 0 (cond o 0 (across f pen)) ≡ 0
    go true o = refl
    go false true = refl
    go false false = omega arith

-- The pen is in the window or above it, or just below it, and the cells up to it are painted.
record Painted (f : Frame) (d : Doc) (old : List ℕ) (p : Sheet) : Type 0 where
  within : p.pen.y ≤ f.r + f.h
  so_far : Reached f old (window f d) (p.pen.y - f.r) (shown f p.pen) p

module _ (f : Frame) (d : Doc) (old : List ℕ) (size : length old ≡ f.h * f.w) where
  along-painted : (p : Sheet) → Painted f d old p → shown f p.pen ≡ shown f (along 1 p).pen → Painted f d old (along 1 p)
  along-painted p painted same =
      let new = window f d in
      let so_far = reached-moved f old new _ _ p.pen.y (p.pen.x + 1) p painted.so_far in
      record { within = painted.within; so_far = reached-at f old new refl same so_far }

  -- Left or right of the window.
  beside-painted : (p : Sheet) → Painted f d old p → InRow f p.pen.y p.screen
      → across f p.pen ≡ across f (along 1 p).pen → Painted f d old (along 1 p)
  beside-painted p painted h same =
      along-painted p painted (shown-inside f p.pen p.screen h ∙ same ∙ sym (shown-inside f (along 1 p).pen p.screen h))

  letter-painted : (b : ℕ) (p q : Sheet) → Painted f d old p → get_or (line_of d p.pen.y) p.pen.x 32 ≡ b → Lettered f b p q
      → Painted f d old q
  letter-painted b p _ painted this (letter-below e) = painted
  letter-painted b p _ painted this (letter-higher up) =
      along-painted p painted (shown-above f p.pen up ∙ sym (shown-above f (along 1 p).pen up))
  letter-painted b p _ painted this (letter-before h left) = beside-painted p painted h (omega arith)
  letter-painted b p _ painted this (letter-behind h right) = beside-painted p painted h (omega arith)
  letter-painted b p _ painted this (letter-inside h left right) =
      let n = p.pen.y - f.r in
      let m = across f p.pen in
      let new = window f d in
      let more : m + 1 ≡ across f (along 1 p).pen = omega arith in
      let fits = letter-fits f p h left right in
      let so_far = reached-at f old new refl (shown-inside f p.pen p.screen h) painted.so_far in
      let next = reached-put f old new size (length-window f d) n m (b ∷ []) p fits (letter-cell f d p h b left right this) so_far in
      record {
        within = painted.within;
        so_far =
            reached-at f old new refl (more ∙ sym (shown-inside f (along 1 p).pen p.screen h))
            (reached-moved f old new n (m + 1) p.pen.y (p.pen.x + 1) (put (next_cell f p.pen) (b ∷ []) p) next);
      }

  end-painted : (p q : Sheet) → Painted f d old p → length (line_of d p.pen.y) ≡ p.pen.x → Ended f p q → Painted f d old q
  end-painted p _ painted all (end_below e) = painted
  end-painted p _ painted all (end-higher up) =
      let new = window f d in
      let still : p.pen.y - f.r ≡ p.pen.y + 1 - f.r = omega arith in
      record {
        within = omega arith;
        so_far =
            reached-at f old new still (shown-above f p.pen up ∙ sym (shown-start f (line_below p).pen refl))
            (reached-moved f old new _ _ (p.pen.y + 1) 0 p painted.so_far);
      }
  end-painted p _ painted all (end-inside h) =
      let n = p.pen.y - f.r in
      let m = across f p.pen in
      let new = window f d in
      let rest = put (next_cell f p.pen) (blanks f p) p in
      let full : m + length (blanks f p) ≡ f.w = rw length-replicate (omega arith) in
      let so_far = reached-at f old new refl (shown-inside f p.pen p.screen h) painted.so_far in
      let blank = reached-put f old new size (length-window f d) n m (blanks f p) p (blanks-fit f p h) (blanks-cells f d p h all) so_far in
      let done = reached-row f old new size (length-window f d) n rest refl (reached-at f old new refl full blank) in
      let below : suc n ≡ p.pen.y + 1 - f.r = omega arith in
      record {
        within = omega arith;
        so_far = reached-at f old new below (sym (shown-start f (row_below f rest).pen refl)) done;
      }

-- Where the pen is then.
letter-pen : (f : Frame) (b : ℕ) (p q : Sheet) → over f p.pen ≡ false → Lettered f b p q
    → (q.pen.y ≡ p.pen.y) × (q.pen.x ≡ p.pen.x + 1)
letter-pen f b p _ more (letter-below e) = clash e more
letter-pen f b p _ more (letter-higher up) = (refl, refl)
letter-pen f b p _ more (letter-before h left) = (refl, refl)
letter-pen f b p _ more (letter-behind h right) = (refl, refl)
letter-pen f b p _ more (letter-inside h left right) = (refl, refl)

end-pen : (f : Frame) (p q : Sheet) → over f p.pen ≡ false → Ended f p q → (q.pen.y ≡ p.pen.y + 1) × (q.pen.x ≡ 0)
end-pen f p _ more (end_below e) = clash e more
end-pen f p _ more (end-higher up) = (refl, refl)
end-pen f p _ more (end-inside h) = (refl, refl)

-- What is to be proved of the painter.
abbrev Done : Frame → Doc → List ℕ → Sheet → Type 0
Done f d old p =
    let new = window f d in
    (p.screen ≡ new)
    × (rows_in p.pen.named ≡ record { first = first_row f.h f.w old new; last = last_row f.h f.w old new })
    × FromOne p.pen.named

-- Of the text t ++ u, t is painted: the pen is at its end.
record Midway (f : Frame) (d : Doc) (old t u : List ℕ) (p : Sheet) : Type 0 where
  whole : content d ≡ t ++ u
  line : p.pen.y ≡ newlines t
  column : p.pen.x ≡ since t
  painted : Painted f d old p

module _ (f : Frame) (d : Doc) (old : List ℕ) (size : length old ≡ f.h * f.w) where
  screen-long : (p : Sheet) → Painted f d old p → length p.screen ≡ f.h * f.w
  screen-long p painted = reached-long f old (window f d) size (length-window f d) _ _ p painted.so_far

  all-painted : (p : Sheet) → Painted f d old p → f.r + f.h ≤ p.pen.y → Done f d old p
  all-painted p painted end =
      let rows : p.pen.y - f.r ≡ f.h = omega arith in
      let none : shown f p.pen ≡ 0 = rw (le-ltb p.pen.y f.r (omega arith), le-leb (f.r + f.h) p.pen.y end) in
      reached-all f old (window f d) size (length-window f d) p (reached-at f old (window f d) rows none painted.so_far)

  -- The line ends below the text.
  ends-painted : (k : ℕ) (p : Sheet) → Painted f d old p → p.pen.y + k ≡ f.r + f.h → length (line_of d p.pen.y) ≡ p.pen.x
      → ((i : ℕ) → p.pen.y < i → length (line_of d i) ≡ 0)
      → Done f d old (times (line_end f) k p)
  unfolding times
  ends-painted zero p painted bottom all none = all-painted p painted (omega arith)
  ends-painted (suc k) p painted bottom all none =
      let view = ended f p (screen-long p painted) in
      let there = end-pen f p (line_end f p) (lt-leb (f.r + f.h) p.pen.y (omega arith)) view in
      ends-painted k (line_end f p) (end-painted f d old size p (line_end f p) painted all view) (omega arith)
      (none (line_end f p).pen.y (omega arith) ∙ sym there.1)
      (λ i less. none i (omega arith))

  -- Painting is over, so that nothing is left to do; or the text is.
  over-painted : (t : List ℕ) (p : Sheet) → over f p.pen ≡ true → Painted f d old p → Done f d old (finish_paint f (paint f t p))
  unfolding finish_paint times
  over-painted t p below painted =
      let end = leb-true (f.r + f.h) p.pen.y below in
      let none : f.r + f.h - p.pen.y ≡ 0 = omega arith in
      rw (paint-over f p below t) (rw none (all-painted p painted end))

  end-of-text : (t : List ℕ) (p : Sheet) → Midway f d old t [] p → Done f d old (finish_paint f p)
  unfolding finish_paint lines
  end-of-text t p m =
      ends-painted (f.r + f.h - p.pen.y) p m.painted (omega (arith, m.painted.within))
      (ap (λ y. length (line_of d y)) m.line ∙ line-ends d t [] m.whole refl ∙ sym m.column)
      (λ i less. no-line-left d t i m.whole (omega arith))

  newline-on : (b : ℕ) (t u : List ℕ) (p : Sheet) → eqb b newline ≡ true → over f p.pen ≡ false → Midway f d old t (b ∷ u) p
      → Midway f d old (t ++ (b ∷ [])) u (line_end f p)
  unfolding newlines since_after
  newline-on b t u p is more m =
      let view = ended f p (screen-long p m.painted) in
      let there = end-pen f p (line_end f p) more view in
      let all = ap (λ y. length (line_of d y)) m.line ∙ line-ends d t (b ∷ u) m.whole (first-line-newline b u is) ∙ sym m.column in
      let lines-passed : newlines (t ++ (b ∷ [])) ≡ newlines t + 1 = newlines-append t (b ∷ []) ∙ rw is in
      let start : since (t ++ (b ∷ [])) ≡ 0 = since-append 0 t (b ∷ []) ∙ rw is in
      record {
        whole = m.whole ∙ sym (append_snoc t b u);
        line = omega (arith, m.line);
        column = there.1 ∙ sym start;
        painted = end-painted f d old size p (line_end f p) m.painted all view;
      }

  letter-on : (b : ℕ) (t u : List ℕ) (p : Sheet) → eqb b newline ≡ false → over f p.pen ≡ false → Midway f d old t (b ∷ u) p
      → Midway f d old (t ++ (b ∷ [])) u (letter f b p)
  unfolding newlines since_after
  letter-on b t u p is more m =
      let view = lettered f p (screen-long p m.painted) b in
      let there = letter-pen f b p (letter f b p) more view in
      let this = line-goes-on d t (b ∷ u) m.whole b (first_line u) (first-line-letter b u is) in
      let lines-passed : newlines (t ++ (b ∷ [])) ≡ newlines t = newlines-append t (b ∷ []) ∙ rw is (add-zero (newlines t)) in
      let next : since (t ++ (b ∷ [])) ≡ suc (since t) = since-append 0 t (b ∷ []) ∙ rw is in
      record {
        whole = m.whole ∙ sym (append_snoc t b u);
        line = omega (arith, m.line);
        column = omega (arith, m.column);
        painted = letter-painted f d old size b p (letter f b p) m.painted (rw (m.line, m.column) this) view;
      }

  byte-on : (b : ℕ) (t u : List ℕ) (p : Sheet) → over f p.pen ≡ false → Midway f d old t (b ∷ u) p
      → Midway f d old (t ++ (b ∷ [])) u (byte f b p)
  byte-on b t u p more m = go (eqb b newline) refl
    where
      go : (is : Bool) → eqb b newline ≡ is → Midway f d old (t ++ (b ∷ [])) u (cond is (line_end f p) (letter f b p))
      go true e = newline-on b t u p e more m
      go false e = letter-on b t u p e more m

  text-painted : (u t : List ℕ) (p : Sheet) → Midway f d old t u p → Done f d old (finish_paint f (paint f u p))
  unfolding paint
  text-painted [] t p m = end-of-text t p m
  text-painted (b ∷ u) t p m =
      ⊎_elim (λ below. over-painted (b ∷ u) p below m.painted)
      (λ more. text-painted u (t ++ (b ∷ [])) (byte f b p) (byte-on b t u p more m))
      (decided (over f p.pen))

-- Painting a text on an old screen gives the window and the named rows, which are numbered from 1 on.
pub painted : (f : Frame) (d : Doc) (old : List ℕ) → length old ≡ f.h * f.w
    → let p = finish_paint f (paint f (content d) (begun old)) in
    (p.screen ≡ window f d)
    × (rows_in p.pen.named ≡ record { first = first_row f.h f.w old (window f d); last = last_row f.h f.w old (window f d) })
    × FromOne p.pen.named
unfolding newlines since_after
painted f d old size =
    let none : 0 ≡ 0 - f.r = omega arith in
    let start = shown-start f (begun old).pen refl in
    text-painted f d old size (content d) [] (begun old) (record {
      whole = refl;
      line = refl;
      column = refl;
      painted = record {
        within = omega arith;
        so_far = reached-at f old (window f d) none (sym start) (reached-none f old (window f d));
      };
    })
