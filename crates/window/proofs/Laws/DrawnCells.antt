-- Laws of the cells that the painter's code writes: the end of a row, and a run in a row.
use mathlib.Core.Path.{◌≡◌, sym, ap, ap₂, ◌∙◌}
use mathlib.Core.Logic.{⊎_elim}
use mathlib.Core.Bool.{Bool, false, not, ◌||◌}
use mathlib.Core.List.{List}
use Prim.Native.Nat.{ℕ, ◌+◌, ◌-◌, ◌*◌, ◌≤◌, ◌<◌, min, max}
use native.Mathlib.Nat.{mul-le-mul}
use native.Mathlib.Omega.{arith}
use lib.Dec.{ltb}
use lib.ListN.{length, take, replicate, length-replicate}
use borrow.Author.Tests.{ltb-true, ltb-false, le-ltb, lt-leb}
use borrow.Rule.Slice.PartMut.{mid_of, put_mid}
use Rattle.std.proofs.lemmas.List.{take-replicate}
use Rattle.gap.specs.Rules.Sequence.{same_bytes, part, patch}
use Rattle.gap.proofs.Laws.Tests.{decided, cond-false}
use Rattle.gap.proofs.Laws.Sequence.{length_part}
use Rattle.window.specs.Words.{Frame}
use Rattle.window.specs.declared.Pen.{Pen}
use Rattle.window.specs.Wording.Painter.{Sheet, sheet, above, over, across, next_cell, cell_of, Easel}
use Rattle.window.specs.Wording.Painter.{put, along, pen_below, row_below, line_end, paint}
use Rattle.window.proofs.Laws.Paint.{InRow, in_row, row_fits, blanks}
use Rattle.window.proofs.Laws.PaintedRun.{Run, lowest, highest, paint-run-none, paint-run}

-- The tests that say that the pen is in a row of the window.
abbrev pub Inside : Frame → Sheet → Type 0
Inside f p = (above f p.pen ≡ false) × (over f p.pen ≡ false)

-- Then that row is on the screen, which is small.
pub record OnScreen (f : Frame) (p : Sheet) : Type 0 where
  pub inside : InRow f p.pen.y p.screen
  pub fits : (p.pen.y - f.r) * f.w + f.w ≤ length p.screen
  pub small : length p.screen ≤ 16384

pub on-screen : {f : Frame} {n : ℕ} {p : Sheet} → Easel f n p → Inside f p → OnScreen f p
on-screen {f} {n} {p} easel tests =
    let inside = in_row f p easel.long tests.0 tests.1 in record {
      inside = inside;
      fits = rw easel.long (row_fits (p.pen.y - f.r) f.h f.w (omega arith));
      small = rw easel.long (mul-le-mul easel.rows easel.columns);
    }

-- The bytes from index a to index b, as code lends them, and the store with others in their place.
abbrev part_lent : ℕ → ℕ → List ℕ → List ℕ
part_lent a b s = mid_of a (b - a) s

abbrev part_back : ℕ → ℕ → List ℕ → List ℕ → List ℕ
part_back a b s t = put_mid a (b - a) s t

part-size : (a b : ℕ) (s : List ℕ) → a ≤ b → b ≤ length s → length (part_lent a b s) ≡ b - a
unfolding part
part-size a b s ordered fits = length_part a (b - a) s (omega arith)

-- A part of the screen is lent, compared and written over: that is put.
put_back : (pen : Pen) (screen run back : List ℕ) (at stop : ℕ) (changed : Bool) → stop - at ≡ length run → back ≡ run
    → changed ≡ not (same_bytes (part_lent at stop screen) run)
    → sheet (record { y = pen.y; x = pen.x; changed = pen.changed || changed; named = pen.named })
    (part_back at stop screen back)
    ≡ put at run (sheet pen screen)
unfolding part patch
put_back pen screen run back at stop changed size e mark = rw (e, mark, size)

-- In a row of the window a line ends with blanks, and the pen goes below.
pub row-end : (f : Frame) (p : Sheet) → InRow f p.pen.y p.screen
    → line_end f p ≡ row_below f (put (next_cell f p.pen) (blanks f p) p)
unfolding line_end
row-end f p row =
    cond-false _ _ (lt-leb (f.r + f.h) p.pen.y row.bottom) ∙ cond-false _ _ (le-ltb p.pen.y f.r row.top)

-- The columns from low to high of the pen's row, all in the window: their cells are on the screen.
cells_fit : {f : Frame} {n : ℕ} {pen : Pen} {screen : List ℕ} → Easel f n (sheet pen screen) × Inside f (sheet pen screen)
    → {at low high : ℕ} → at ≡ cell_of f pen low → f.c ≤ low → low ≤ high → high ≤ f.c + f.w
    → (at + (high - low) ≤ length screen) × (length screen ≤ 16384)
cells_fit asked cell left ordered right =
    let row = on-screen asked.0 asked.1 in (omega (arith, row.fits), row.small)

-- The end of a row begins at the pen's column or at an edge of the window w columns wide.
pub record AtEdge (c w x low : ℕ) : Type 0 where
  pub left : c ≤ low
  pub right : low ≤ c + w
  pub across : low - c ≡ min (x - c) w
  pub rest : c + w - low ≡ w - min (x - c) w

pub at_edge : {c w x low : ℕ} → low ≡ min (max c x) (c + w) → AtEdge c w x low
at_edge {c} {w} {x} {low} from =
    let across : low - c ≡ min (x - c) w = omega arith in
    let left : c ≤ low = omega arith in
    record { left = left; right = omega arith; across = across; rest = behind left across }
  where
    behind : {done : ℕ} → c ≤ low → low - c ≡ done → c + w - low ≡ w - done
    behind left across = omega arith

-- The blanks that code has at hand are enough for a row.
pub blank : (n : ℕ) → n ≤ 256 → ◌≡◌ {A = List ℕ} (take n (replicate 256 32)) (replicate n 32)
blank n few = take-replicate n 256 32 few

-- Its cells are lent and come back blank.
module _ {f : Frame} {pen : Pen} {screen : List ℕ} (asked : Easel f 1 (sheet pen screen) × Inside f (sheet pen screen))
    {low at : ℕ} (edge : AtEdge f.c f.w pen.x low) (cell : at ≡ cell_of f pen low) where
  abbrev left : ℕ
  left = f.c + f.w - low

  abbrev rest : List ℕ
  rest = part_lent at (at + left) screen

  abbrev row_of_blanks : List ℕ
  row_of_blanks = take left (replicate 256 32)

  pub few-left : left ≤ 256
  few-left = omega (arith, asked.0.columns, edge.left)

  pub row-ended : {q : Pen} {back : List ℕ} {changed : Bool} → back ≡ row_of_blanks
      → changed ≡ not (same_bytes rest row_of_blanks) → q ≡ pen_below f pen (pen.changed || changed)
      → sheet q (part_back at (at + left) screen back) ≡ line_end f (sheet pen screen)
  row-ended {q} {back} {changed} blanked mark below =
      let stop = at + left in
      let all : stop - at ≡ left = omega arith in
      let as_many = all ∙ sym (length-replicate {A = ℕ} left 32) in
      let next : at ≡ next_cell f pen = cell ∙ ap (λ n. (pen.y - f.r) * f.w + n) edge.across in
      let made = blank left few-left in
      rw below
      (ap (row_below f) (put_back pen screen (replicate left 32) back at stop changed as_many (blanked ∙ made) (mark ∙ ap (λ s. not (same_bytes rest s)) made))
      ∙ ap₂ (λ a n. row_below f (put a (replicate n 32) (sheet pen screen))) next edge.rest
      ∙ sym (row-end f (sheet pen screen) (on-screen asked.0 asked.1).inside))

-- Of a run of n bytes at column x, the columns from low to high are in the window w columns wide: where they are, and their bytes.
pub record SeenColumns (c w x n low high : ℕ) : Type 0 where
  pub left : c ≤ low
  pub right : high ≤ c + w
  pub ordered : low - x ≤ high - x
  pub bytes : high - x ≤ n
  pub size : high - x - (low - x) ≡ high - low

all-columns-seen : {c w x n low high : ℕ} → low ≡ max c x → high ≡ min (c + w) (x + n) → low < high → SeenColumns c w x n low high
all-columns-seen {c} {w} {x} {n} {low} {high} from to some =
    let start : x ≤ low = omega arith in
    record {
      left = omega arith;
      right = omega arith;
      ordered = omega (arith, start);
      bytes = omega arith;
      size = apart start some;
    }
  where
    apart : x ≤ low → low < high → high - x - (low - x) ≡ high - low
    apart start more = omega arith

-- A run in a row of the window, of which no columns are seen or those from low to high.
module _ {f : Frame} {pen : Pen} {screen : List ℕ} (run : List ℕ) (asked : Easel f (length run) (sheet pen screen) × Inside f (sheet pen screen))
    {low high : ℕ} (from : low ≡ max f.c pen.x) (to : high ≡ min (f.c + f.w) (pen.x + length run)) where
  pub run-unseen : {q : Pen} → Run run → high ≤ low
      → q ≡ record { y = pen.y; x = pen.x + length run; changed = pen.changed; named = pen.named }
      → sheet q screen ≡ paint f run (sheet pen screen)
  run-unseen unbroken none moved =
      rw moved (sym (paint-run-none f run (sheet pen screen) (on-screen asked.0 asked.1).inside unbroken (omega arith)))

  pub seen-columns : low < high → SeenColumns f.c f.w pen.x (length run) low high
  seen-columns some = all-columns-seen from to some

  -- Their cells, and their bytes.
  module _ {at : ℕ} (some : low < high) (cell : at ≡ cell_of f pen low) where
    abbrev cells : List ℕ
    cells = part_lent at (at + (high - low)) screen

    abbrev bytes : List ℕ
    bytes = part_lent (low - pen.x) (high - pen.x) run

    pub fits : (at + (high - low) ≤ length screen) × (length screen ≤ 16384)
    fits = cells_fit asked cell (seen-columns some).left (omega arith) (seen-columns some).right

    size : length bytes ≡ high - low
    size = part-size (low - pen.x) (high - pen.x) run (seen-columns some).ordered (seen-columns some).bytes ∙ (seen-columns some).size

    pub as_long : length bytes ≡ length cells
    as_long = size ∙ sym (part-size at (at + (high - low)) screen (omega arith) fits.0 ∙ omega arith)

    pub run-drawn : {q : Pen} {back : List ℕ} {changed : Bool} → Run run → back ≡ bytes → changed ≡ not (same_bytes cells bytes)
        → q ≡ record { y = pen.y; x = pen.x + length run; changed = pen.changed || changed; named = pen.named }
        → sheet q (part_back at (at + (high - low)) screen back) ≡ paint f run (sheet pen screen)
    unfolding part
    run-drawn {q} {back} {changed} unbroken e mark moved =
        let all : at + (high - low) - at ≡ length bytes = omega (arith, size) in
        let drawn : ℕ → List ℕ → Sheet = λ a s. along (length run) (put a s (sheet pen screen)) in
        rw moved
        (ap (along (length run)) (put_back pen screen bytes back at (at + (high - low)) changed all e mark)
        ∙ ap₂ (λ a k. drawn a (part (low - pen.x) k run)) cell (seen-columns some).size
        ∙ ap₂ (λ l h. drawn (cell_of f pen l) (part (l - pen.x) (h - l) run)) from to
        ∙ sym (paint-run f run (sheet pen screen) (on-screen asked.0 asked.1).inside unbroken (omega arith)))

-- A run leaves the pen in its row.
pub run_row : (f : Frame) (run : List ℕ) (p : Sheet) → InRow f p.pen.y p.screen → Run run → (paint f run p).pen.y ≡ p.pen.y
run_row f run p inside unbroken =
    let low = lowest f p in
    let high = highest f (length run) p in
    ⊎_elim (λ some. ap (λ q. q.pen.y) (paint-run f run p inside unbroken (ltb-true low high some)))
    (λ none. ap (λ q. q.pen.y) (paint-run-none f run p inside unbroken (ltb-false low high none)))
    (decided (ltb low high))
