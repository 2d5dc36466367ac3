-- Laws of the painter's steps: texts put together, what lies above the window or below it, and how far the pen comes.
use mathlib.Core.Path.{◌≡◌, refl, sym, ap, ap₂, ◌∙◌}
use mathlib.Core.Logic.{⊎_elim}
use mathlib.Core.Bool.{Bool, true, false, not, ◌&&◌, cond}
use mathlib.Core.List.{List, [], ◌∷◌, ◌++◌}
use Prim.Native.Nat.{ℕ, suc, ◌+◌, ◌-◌, ◌*◌, ◌≤◌, ◌<◌}
use native.Mathlib.Nat.{eq-or-lt_of_le, suc-mul, mul-le-mul_right}
use native.Mathlib.Omega.{arith}
use lib.Dec.{eqb, leb, ltb}
use lib.ListN.{length, take, drop, replicate, take-append-drop, length-replicate}
use borrow.Author.Tests.{ltb-true, ltb-false, leb-true, leb-false, lt-ltb, le-ltb, lt-leb}
use Rattle.gap.specs.Rules.Lines.{newline, newlines, since_after}
use Rattle.gap.proofs.Laws.Tests.{cond-true}
use Rattle.gap.proofs.Laws.Runs.{length-patch}
use Rattle.gap.proofs.Laws.Lines.{since-unbroken}
use Rattle.window.specs.Words.{Frame}
use Rattle.window.specs.Wording.Painter.{Sheet, above, over, across, next_cell, put, along, letter, line_below, row_below, line_end, paint}
use Rattle.window.specs.Wording.Painter.{Easel, LineStart}

-- What one byte does.
abbrev pub byte : Frame → ℕ → Sheet → Sheet
byte f b p = cond (eqb b newline) (line_end f p) (letter f b p)

pub paint-append : (f : Frame) (s t : List ℕ) (p : Sheet) → paint f (s ++ t) p ≡ paint f t (paint f s p)
unfolding paint
paint-append f [] t p = refl
paint-append f (b ∷ s) t p = paint-append f s t (byte f b p)

-- Either way the same.
either : {A : Type 0} (is : Bool) {x y z : A} → x ≡ z → y ≡ z → cond is x y ≡ z
either true p q = p
either false p q = q

-- Below the window nothing is painted.
module _ (f : Frame) (p : Sheet) (below : over f p.pen ≡ true) where
  pub line_end-over : line_end f p ≡ p
  unfolding line_end
  line_end-over = cond-true _ _ below

  pub letter-over : (b : ℕ) → letter f b p ≡ p
  unfolding letter
  letter-over b = cond-true _ _ below

  pub paint-over : (t : List ℕ) → paint f t p ≡ p
  unfolding paint
  paint-over [] = refl
  paint-over (b ∷ t) = ap (paint f t) (either (eqb b newline) line_end-over (letter-over b)) ∙ paint-over t

-- Above the window only the pen moves.
module _ (f : Frame) (p : Sheet) (up : p.pen.y < f.r) where
  not-over : over f p.pen ≡ false
  not-over = lt-leb (f.r + f.h) p.pen.y (omega arith)

  letter-above : (b : ℕ) → letter f b p ≡ along 1 p
  unfolding letter
  letter-above b = rw (not-over, lt-ltb p.pen.y f.r up)

  line_end-above : line_end f p ≡ line_below p
  unfolding line_end
  line_end-above = rw (not-over, lt-ltb p.pen.y f.r up)

-- The pen behind a text of which nothing is painted.
abbrev pub behind : List ℕ → Sheet → Sheet
behind t p =
    record {
      pen =
          record {
            y = p.pen.y + newlines t;
            x = since_after p.pen.x t;
            changed = p.pen.changed;
            named = p.pen.named;
          };
      screen = p.screen;
    }

-- The pen at line y, column x, where nothing else is changed.
abbrev pub moved : ℕ → ℕ → Sheet → Sheet
moved y x p =
    record {
      pen = record { y = y; x = x; changed = p.pen.changed; named = p.pen.named };
      screen = p.screen;
    }

-- A text that lies above the window, or at whose end the window's first line starts.
record Above (f : Frame) (t : List ℕ) (y x : ℕ) : Type 0 where
  up : y < f.r
  fits : y + newlines t ≤ f.r
  start : y + newlines t ≡ f.r → since_after x t ≡ 0

-- Nothing is left of a line that ends where it starts.
nothing-moves : (f : Frame) (t : List ℕ) (p : Sheet) → newlines t ≡ 0 → since_after 0 t ≡ 0 → paint f t p ≡ behind t p
unfolding paint newlines since_after
nothing-moves f [] p e q = let here : p.pen.y ≡ p.pen.y + 0 = omega arith in ap (λ y. moved y p.pen.x p) here
nothing-moves f (b ∷ t) p e q = absurd (omega (arith, since-unbroken 0 (b ∷ t) e))

module _ (f : Frame) where
  above-byte : (is : Bool) (b : ℕ) (t : List ℕ) (p : Sheet)
      → ((q : Sheet) → Above f t q.pen.y q.pen.x → paint f t q ≡ behind t q)
      → p.pen.y < f.r
      → p.pen.y + cond is (suc (newlines t)) (newlines t) ≤ f.r
      → (p.pen.y + cond is (suc (newlines t)) (newlines t) ≡ f.r → since_after (cond is 0 (suc p.pen.x)) t ≡ 0)
      → paint f t (cond is (line_end f p) (letter f b p))
      ≡ moved (p.pen.y + cond is (suc (newlines t)) (newlines t)) (since_after (cond is 0 (suc p.pen.x)) t) p
  above-byte true b t p rest up fits start =
      let e : p.pen.y + 1 + newlines t ≡ p.pen.y + suc (newlines t) = omega arith in
      ap (paint f t) (line_end-above f p up)
      ∙ ⊎_elim (λ top. nothing-moves f t (line_below p) (omega arith) (start (omega arith)))
      (λ higher. rest (line_below p) (record { up = omega arith; fits = omega arith; start = λ q. start (omega arith) }))
      (eq-or-lt_of_le up)
      ∙ ap (λ y. moved y (since_after 0 t) p) e
  above-byte false b t p rest up fits start =
      let e : p.pen.x + 1 ≡ suc p.pen.x = omega arith in
      ap (paint f t) (letter-above f p up b)
      ∙ rest (along 1 p) (record { up = up; fits = fits; start = λ q. ap (λ x. since_after x t) e ∙ start q })
      ∙ ap (λ x. moved (p.pen.y + newlines t) (since_after x t) p) e

  only-moves : (t : List ℕ) (p : Sheet) → Above f t p.pen.y p.pen.x → paint f t p ≡ behind t p
  unfolding paint newlines since_after
  only-moves [] p a = let here : p.pen.y ≡ p.pen.y + 0 = omega arith in ap (λ y. moved y p.pen.x p) here
  only-moves (b ∷ t) p a = above-byte (eqb b newline) b t p (only-moves t) a.up a.fits a.start

  pub paint-above : (t : List ℕ) (p : Sheet) → p.pen.y + newlines t < f.r → paint f t p ≡ behind t p
  paint-above t p up = only-moves t p (record { up = omega arith; fits = omega arith; start = λ q. absurd (omega arith) })

  -- A text up to the window's first line.
  pub paint-top : (t : List ℕ) (p : Sheet) → p.pen.y < f.r → p.pen.y + newlines t ≡ f.r → ((x : ℕ) → since_after x t ≡ 0)
      → paint f t p ≡ moved f.r 0 p
  paint-top t p up top start =
      only-moves t p (record { up = up; fits = omega arith; start = λ q. start p.pen.x })
      ∙ ap₂ (λ y x. moved y x p) top (start p.pen.x)

  -- A text in which the window's first line starts at an index: from there on it is painted.
  pub paint-from : (t : List ℕ) (p : Sheet) (at : ℕ) → p.pen.y < f.r → f.r ≤ p.pen.y + newlines t
      → LineStart t (p.pen.y + newlines t - f.r) at → paint f t p ≡ paint f (drop at t) (moved f.r 0 p)
  paint-from t p at up reaches s =
      ap (λ u. paint f u p) (sym (take-append-drop at t))
      ∙ paint-append f (take at t) (drop at t) p
      ∙ ap (paint f (drop at t)) (paint-top (take at t) p up (omega (arith, s.lines)) s.start)

-- The rows of the screen lie in it.
pub row_fits : (n h w : ℕ) → n < h → n * w + w ≤ h * w
row_fits n h w below = omega (arith, suc-mul n w, mul-le-mul_right w below)

-- The pen stands in a row of the window.
pub record InRow (f : Frame) (y : ℕ) (screen : List ℕ) : Type 0 where
  pub long : length screen ≡ f.h * f.w
  pub top : f.r ≤ y
  pub bottom : y < f.r + f.h

-- The pen stands in a row of the window where the tests say so.
pub in_row : (f : Frame) (p : Sheet) → length p.screen ≡ f.h * f.w → above f p.pen ≡ false → over f p.pen ≡ false
    → InRow f p.pen.y p.screen
in_row f p long top bottom =
    record { long = long; top = ltb-false p.pen.y f.r top; bottom = leb-false (f.r + f.h) p.pen.y bottom }

-- The blanks that the end of a line puts.
abbrev pub blanks : Frame → Sheet → List ℕ
blanks f p = replicate (f.w - across f p.pen) 32

-- A cell of the pen's row lies on the screen, and so does what is left of the row.
module _ (f : Frame) (p : Sheet) (h : InRow f p.pen.y p.screen) where
  pub letter-fits : f.c ≤ p.pen.x → p.pen.x < f.c + f.w → next_cell f p.pen + 1 ≤ length p.screen
  letter-fits left right = omega (arith, row_fits (p.pen.y - f.r) f.h f.w (omega arith))

  pub blanks-fit : next_cell f p.pen + length (blanks f p) ≤ length p.screen
  blanks-fit = rw length-replicate (omega (arith, row_fits (p.pen.y - f.r) f.h f.w (omega arith)))

-- What a letter does, by where the pen is.
pub data Lettered (f : Frame) (b : ℕ) (p : Sheet) : Sheet → Type 0 where
  letter-below : over f p.pen ≡ true → Lettered f b p p
  letter-higher : p.pen.y < f.r → Lettered f b p (along 1 p)
  letter-before : InRow f p.pen.y p.screen → p.pen.x < f.c → Lettered f b p (along 1 p)
  letter-behind : InRow f p.pen.y p.screen → f.c + f.w ≤ p.pen.x → Lettered f b p (along 1 p)
  letter-inside : InRow f p.pen.y p.screen → f.c ≤ p.pen.x → p.pen.x < f.c + f.w
      → Lettered f b p (along 1 (put (next_cell f p.pen) (b ∷ []) p))

-- What the end of a line does.
pub data Ended (f : Frame) (p : Sheet) : Sheet → Type 0 where
  end_below : over f p.pen ≡ true → Ended f p p
  end-higher : p.pen.y < f.r → Ended f p (line_below p)
  end-inside : InRow f p.pen.y p.screen → Ended f p (row_below f (put (next_cell f p.pen) (blanks f p) p))

module _ (f : Frame) (p : Sheet) (long : length p.screen ≡ f.h * f.w) where
  pub lettered : (b : ℕ) → Lettered f b p (letter f b p)
  unfolding letter
  lettered b = go _ _ _ _ refl refl refl refl
    where
      go : (is-over is-above from to : Bool) → over f p.pen ≡ is-over → above f p.pen ≡ is-above
          → leb f.c p.pen.x ≡ from → ltb p.pen.x (f.c + f.w) ≡ to
          → Lettered f b p (cond is-over p (along 1 (cond (not is-above && (from && to)) (put (next_cell f p.pen) (b ∷ []) p) p)))
      go true is-above from to e a l r = letter-below e
      go false true from to e a l r = letter-higher (ltb-true _ _ a)
      go false false false to e a l r = letter-before (in_row f p long a e) (leb-false _ _ l)
      go false false true false e a l r = letter-behind (in_row f p long a e) (ltb-false _ _ r)
      go false false true true e a l r = letter-inside (in_row f p long a e) (leb-true _ _ l) (ltb-true _ _ r)

  pub ended : Ended f p (line_end f p)
  unfolding line_end
  ended = go _ _ refl refl
    where
      go : (is-over is-above : Bool) → over f p.pen ≡ is-over → above f p.pen ≡ is-above
          → Ended f p (cond is-over p (cond is-above (line_below p) (row_below f (put (next_cell f p.pen) (blanks f p) p))))
      go true is-above e a = end_below e
      go false true e a = end-higher (ltb-true _ _ a)
      go false false e a = end-inside (in_row f p long a e)

-- What a text of n bytes can do: the pen goes on by so many lines and columns at most, and the screen keeps its length.
record Onward (n : ℕ) (p q : Sheet) : Type 0 where
  down : q.pen.y ≤ p.pen.y + n
  right : q.pen.x ≤ p.pen.x + n
  same : length q.screen ≡ length p.screen

letter-onward : (f : Frame) (b : ℕ) (p q : Sheet) → Lettered f b p q → Onward 1 p q
letter-onward f b p _ (letter-below e) = omega arith
letter-onward f b p _ (letter-higher up) = omega arith
letter-onward f b p _ (letter-before h left) = omega arith
letter-onward f b p _ (letter-behind h right) = omega arith
letter-onward f b p _ (letter-inside h left right) =
    let same = length-patch (next_cell f p.pen) (b ∷ []) p.screen (letter-fits f p h left right) in
    record { down = omega arith; right = omega arith; same = same }

end-onward : (f : Frame) (p q : Sheet) → Ended f p q → Onward 1 p q
end-onward f p _ (end_below e) = omega arith
end-onward f p _ (end-higher up) = omega arith
end-onward f p _ (end-inside h) =
    let same = length-patch (next_cell f p.pen) (blanks f p) p.screen (blanks-fit f p h) in
    record { down = omega arith; right = omega arith; same = same }

-- What holds of both holds of the chosen one.
choice : (P : Sheet → Type 0) (is : Bool) {x y : Sheet} → P x → P y → P (cond is x y)
choice P true p q = p
choice P false p q = q

module _ (f : Frame) where
  onward : (t : List ℕ) (p : Sheet) → length p.screen ≡ f.h * f.w → Onward (length t) p (paint f t p)
  unfolding paint
  onward [] p long = omega arith
  onward (b ∷ t) p long =
      let ending = end-onward f p _ (ended f p long) in
      let first = choice (Onward 1 p) (eqb b newline) ending (letter-onward f b p _ (lettered f p long b)) in
      let rest = onward t (byte f b p) (first.same ∙ long) in
      record { down = omega arith; right = omega arith; same = rest.same ∙ first.same }

  pub paint-length : (t : List ℕ) (p : Sheet) → length p.screen ≡ f.h * f.w → length (paint f t p).screen ≡ length p.screen
  paint-length t p long = (onward t p long).same

  -- What a painting function asks for a text and n bytes more, it has for the n bytes behind that text.
  pub easel-on : (t : List ℕ) (n : ℕ) (p : Sheet) → Easel f (length t + n) p → Easel f n (paint f t p)
  easel-on t n p e =
      let far = onward t p e.long in
      record {
        long = far.same ∙ e.long;
        rows = e.rows;
        columns = e.columns;
        offsets = e.offsets;
        pen = (omega (arith, far.down, e.pen.0), omega (arith, far.right, e.pen.1));
      }

  pub easel-less : (m n : ℕ) (p : Sheet) → n ≤ m → Easel f m p → Easel f n p
  easel-less m n p less e = record {
    long = e.long;
    rows = e.rows;
    columns = e.columns;
    offsets = e.offsets;
    pen = omega arith;
  }

  -- One newline is a line more, unless painting is over.
  reaches : (is : Bool) (b n : ℕ) (p : Sheet) → length p.screen ≡ f.h * f.w → f.r ≤ p.pen.y + cond is (suc n) n
      → f.r ≤ (cond is (line_end f p) (letter f b p)).pen.y + n
  reaches true b n p long low = end-reaches (line_end f p) (ended f p long)
    where
      end-reaches : (q : Sheet) → Ended f p q → f.r ≤ q.pen.y + n
      end-reaches _ (end_below e) = omega (arith, leb-true (f.r + f.h) p.pen.y e)
      end-reaches _ (end-higher up) = omega arith
      end-reaches _ (end-inside h) = omega arith
  reaches false b n p long low = letter-reaches (letter f b p) (lettered f p long b)
    where
      letter-reaches : (q : Sheet) → Lettered f b p q → f.r ≤ q.pen.y + n
      letter-reaches _ (letter-below e) = low
      letter-reaches _ (letter-higher up) = low
      letter-reaches _ (letter-before h left) = low
      letter-reaches _ (letter-behind h right) = low
      letter-reaches _ (letter-inside h left right) = low

  -- A text with the newlines that are missing brings the pen into the window.
  pub paint-reaches : (t : List ℕ) (p : Sheet) → length p.screen ≡ f.h * f.w → f.r ≤ p.pen.y + newlines t
      → f.r ≤ (paint f t p).pen.y
  unfolding paint newlines
  paint-reaches [] p long low = omega arith
  paint-reaches (b ∷ t) p long low =
      paint-reaches t (byte f b p) ((onward (b ∷ []) p long).same ∙ long) (reaches (eqb b newline) b (newlines t) p long low)

  pub paint-not-above : (t : List ℕ) (p : Sheet) → length p.screen ≡ f.h * f.w → f.r ≤ p.pen.y + newlines t
      → above f (paint f t p).pen ≡ false
  paint-not-above t p long low = le-ltb (paint f t p).pen.y f.r (paint-reaches t p long low)
