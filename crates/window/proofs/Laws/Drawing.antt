-- Laws of the painter's loops over a text: the run up to a newline, a text drawn run by run, and the lines that end below it.
use mathlib.Core.Path.{◌≡◌, refl, sym, ap, ◌∙◌}
use mathlib.Core.Bool.{false}
use mathlib.Core.List.{List, [], ◌∷◌, ◌++◌}
use Prim.Native.Nat.{ℕ, suc, ◌+◌, ◌-◌, ◌≤◌, ◌<◌}
use native.Mathlib.Numerals.{add-one}
use native.Mathlib.Omega.{arith}
use lib.ListN.{length, drop, get_or, take-append-drop, drop_of_length-le}
use lib.Seq.{drop-cons, drop-drop}
use borrow.Author.Tests.{ltb-false, le-ltb, le-leb, lt-leb}
use borrow.Rule.Slice.PartMut.{mid_of}
use Rattle.gap.specs.Rules.Sequence.{part}
use Rattle.gap.specs.Rules.Doc.{times}
use Rattle.gap.specs.Rules.Lines.{newline, Unbroken}
use Rattle.gap.proofs.Laws.Sequence.{length_part}
use Rattle.window.specs.Words.{Frame}
use Rattle.window.specs.Wording.Painter.{Sheet, above, line_end, paint, finish_paint, Easel}
use Rattle.window.proofs.Laws.Paint.{InRow, in_row, paint-append, paint-over, easel-on, easel-less}
use Rattle.window.proofs.Laws.PaintedRun.{Run}
use Rattle.window.proofs.Laws.DrawnCells.{Inside, row-end, run_row}

-- A text from index i on, cut at a later index.
split_at : (i e : ℕ) (t : List ℕ) → i ≤ e → drop i t ≡ mid_of i (e - i) t ++ drop e t
split_at i e t later =
    let behind : i + (e - i) ≡ e = omega arith in
    let onward : drop (e - i) (drop i t) ≡ drop e t = rw (drop-drop, behind) in
    sym (rw (← onward) (take-append-drop (e - i) (drop i t)))

-- A text was drawn up to index i, and the pen is at line y: what is left of it decides.
pub record Drawn (f : Frame) (t : List ℕ) (first : Sheet) (y i : ℕ) (p : Sheet) : Type 0 where
  pub line : p.pen.y ≡ y
  pub within : i ≤ length t
  pub easel : Easel f (length t - i) p
  pub top : above f p.pen ≡ false
  pub rest : paint f t first ≡ paint f (drop i t) p

-- The same with the pen in a row of the window.
pub record DrawnInRow (f : Frame) (t : List ℕ) (first : Sheet) (y i : ℕ) (p : Sheet) : Type 0 where
  pub drawn : Drawn f t first y i p
  pub bottom : p.pen.y < f.r + f.h

pub drawn-in-row : {f : Frame} {t : List ℕ} {first : Sheet} {y i : ℕ} {p : Sheet} → Drawn f t first y i p → y < f.r + f.h
    → DrawnInRow f t first y i p
drawn-in-row so_far bottom = record { drawn = so_far; bottom = rw so_far.line bottom }

module _ {f : Frame} {t : List ℕ} {first : Sheet} {y i : ℕ} {p : Sheet} where
  pub drawn-over : Drawn f t first y i p → f.r + f.h ≤ y → p ≡ paint f t first
  drawn-over so_far low = sym (so_far.rest ∙ paint-over f p (le-leb (f.r + f.h) p.pen.y (rw so_far.line low)) (drop i t))

  pub drawn-all : Drawn f t first y i p → length t ≤ i → p ≡ paint f t first
  unfolding paint
  drawn-all so_far end = sym (so_far.rest ∙ rw drop_of_length-le)

  module _ (so_far : DrawnInRow f t first y i p) where
    tests : Inside f p
    tests = (so_far.drawn.top, lt-leb (f.r + f.h) p.pen.y so_far.bottom)

    inside : InRow f p.pen.y p.screen
    inside = in_row f p so_far.drawn.easel.long tests.0 tests.1

    -- The run from there on is drawn.
    module _ {e : ℕ} (run : Unbroken t i e) where
      size : length (mid_of i (e - i) t) ≡ e - i
      unfolding part
      size = length_part i (e - i) t (omega (arith, run.low, run.high))

      unbroken : Run (mid_of i (e - i) t)
      unfolding part
      unbroken = run.bytes

      pub run-asks : (Run (mid_of i (e - i) t)) × ((Easel f (length (mid_of i (e - i) t)) p) × Inside f p)
      run-asks =
          let shorter : length (mid_of i (e - i) t) ≤ length t - i = omega (arith, size, run.high) in
          (unbroken, (easel-less f (length t - i) _ p shorter so_far.drawn.easel, tests))

      pub drawn-run : {q : Sheet} → q ≡ paint f (mid_of i (e - i) t) p → DrawnInRow f t first y e q
      drawn-run {q} painted =
          let bytes = mid_of i (e - i) t in
          let line : q.pen.y ≡ p.pen.y = ap (λ s. s.pen.y) painted ∙ run_row f bytes p inside unbroken in
          let all : length bytes + (length t - e) ≤ length t - i = omega (arith, size, run.low, run.high) in
          let onward = paint-append f bytes (drop e t) p ∙ ap (paint f (drop e t)) (sym painted) in
          record {
            drawn = record {
              line = line ∙ so_far.drawn.line;
              within = run.high;
              easel = rw painted (easel-on f bytes (length t - e) p (easel-less f (length t - i) _ p all so_far.drawn.easel));
              top = rw line so_far.drawn.top;
              rest = so_far.drawn.rest ∙ ap (λ s. paint f s p) (split_at i e t run.low) ∙ onward;
            };
            bottom = rw line so_far.bottom;
          }

    -- The line ends there.
    pub line-asks : i < length t → (Easel f 1 p) × Inside f p
    line-asks more = (easel-less f (length t - i) 1 p (omega arith) so_far.drawn.easel, tests)

    pub drawn-line : {q : Sheet} → i < length t → get_or t i 0 ≡ newline → q ≡ line_end f p → Drawn f t first (y + 1) (i + 1) q
    unfolding paint
    drawn-line more e ended =
        let all : 1 + (length t - (i + 1)) ≤ length t - i = omega arith in
        record {
          line = ap (λ s. s.pen.y) (ended ∙ row-end f p inside) ∙ omega (arith, so_far.drawn.line);
          within = omega arith;
          easel = rw ended (easel-on f (newline ∷ []) (length t - (i + 1)) p (easel-less f (length t - i) _ p all so_far.drawn.easel));
          top = rw (ended, row-end f p inside) (le-ltb (p.pen.y + 1) f.r (omega (arith, inside.top)));
          rest = so_far.drawn.rest ∙ rw (drop-cons t i 0 more, e, add-one, ended);
        }

-- The lines before y have ended: those that are left decide.
pub record Finished (f : Frame) (first : Sheet) (y : ℕ) (p : Sheet) : Type 0 where
  pub line : p.pen.y ≡ y
  pub top : above f p.pen ≡ false
  pub easel : Easel f (f.r + f.h + 1 - y) p
  pub rest : finish_paint f first ≡ times (line_end f) (f.r + f.h - y) p

pub finished-none : {f : Frame} {p : Sheet} → Easel f 65 p → above f p.pen ≡ false → Finished f p p.pen.y p
unfolding finish_paint
finished-none {f} {p} easel top =
    let all : f.r + f.h + 1 - p.pen.y ≤ 65 = omega (arith, ltb-false p.pen.y f.r top, easel.rows) in
    record { line = refl; top = top; easel = easel-less f 65 _ p all easel; rest = refl }

module _ {f : Frame} {first : Sheet} {y : ℕ} {p : Sheet} (so_far : Finished f first y p) where
  pub finished-all : f.r + f.h ≤ y → p ≡ finish_paint f first
  unfolding times
  finished-all end = let none : f.r + f.h - y ≡ 0 = omega arith in sym (so_far.rest ∙ rw none)

  module _ (bottom : y < f.r + f.h) where
    pub end-asks : (Easel f 1 p) × Inside f p
    end-asks = (
      easel-less f (f.r + f.h + 1 - y) 1 p (omega arith) so_far.easel,
      (so_far.top, lt-leb (f.r + f.h) p.pen.y (rw so_far.line bottom)),
    )

    pub finished-line : {q : Sheet} → q ≡ line_end f p → Finished f first (y + 1) q
    unfolding paint times
    finished-line {q} ended =
        let inside = in_row f p so_far.easel.long end-asks.1.0 end-asks.1.1 in
        let line : q.pen.y ≡ y + 1 = ap (λ s. s.pen.y) (ended ∙ row-end f p inside) ∙ omega (arith, so_far.line) in
        let all : 1 + (f.r + f.h + 1 - (y + 1)) ≤ f.r + f.h + 1 - y = omega arith in
        let next : f.r + f.h - y ≡ suc (f.r + f.h - (y + 1)) = omega arith in
        record {
          line = line;
          top = le-ltb q.pen.y f.r (omega (arith, inside.top));
          easel = rw ended (easel-on f (newline ∷ []) _ p (easel-less f (f.r + f.h + 1 - y) _ p all so_far.easel));
          rest = so_far.rest ∙ rw (next, ended);
        }
