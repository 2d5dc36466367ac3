-- The law of a run: a text without newline, painted in a row of the window, is put there in one go.
use mathlib.Core.Path.{◌≡◌, refl, sym, ap, ap₂, ◌∙◌}
use mathlib.Core.Bool.{Bool, true, false, not, ◌&&◌, ◌||◌, or-false}
use mathlib.Core.List.{List, [], ◌∷◌, ◌++◌}
use Prim.Native.Nat.{ℕ, zero, suc, ◌+◌, ◌-◌, ◌*◌, ◌≤◌, ◌<◌, min, max}
use native.Mathlib.Omega.{arith}
use lib.Dec.{eqb}
use lib.ListN.{length, take, drop, length-append, length-take, length-drop}
use lib.Seq.{take-add, take_all, take-nil, drop-drop, drop-nil}
use borrow.Author.Tests.{lt-ltb, le-ltb, le-leb, lt-leb, not-true}
use Rattle.gap.specs.Rules.Sequence.{every, same_bytes, part, patch}
use Rattle.gap.specs.Rules.Lines.{newline}
use Rattle.gap.proofs.Laws.Tests.{and_left, and_right, cond-false}
use Rattle.gap.proofs.Laws.Sequence.{length_part, take-least}
use Rattle.gap.proofs.Laws.Runs.{length-patch, patch-none}
use Rattle.gap.proofs.Laws.Patches.{part-behind, patch-behind}
use Rattle.gap.proofs.Laws.Compared.{same-append}
use Rattle.window.specs.Words.{Frame}
use Rattle.window.specs.Wording.Painter.{Sheet, above, over, next_cell, put, along, letter, line_end, paint}
use Rattle.window.proofs.Laws.Paint.{moved, InRow, letter-fits}

-- Nothing put changes nothing, and two runs side by side are put as one.
pub put-none : (at : ℕ) (p : Sheet) → put at [] p ≡ p
unfolding part same_bytes
put-none at p =
    let unmarked = or-false p.pen.changed in
    let same = patch-none p.screen at in
    λ i. record {
      pen = record { y = p.pen.y; x = p.pen.x; changed = unmarked i; named = p.pen.named };
      screen = same i;
    }

marks : (was a b : Bool) → (was || not a || not b) ≡ (was || not (a && b))
marks was true b = ap (λ t. t || not b) (or-false was)
marks true false b = refl
marks false false b = refl

module _ (at : ℕ) (s t screen : List ℕ) (fits : at + length s ≤ length screen) where
  same-two : (same_bytes (part at (length s) screen) s && same_bytes (part (at + length s) (length t) screen) t)
      ≡ same_bytes (part at (length (s ++ t)) screen) (s ++ t)
  unfolding part
  same-two =
      let fore = take (length s) (drop at screen) in
      let aft = take (length t) (drop (at + length s) screen) in
      rw (length-append, take-add, drop-drop) (sym (same-append fore s aft t (length_part at (length s) screen fits)))

  marked-two : (was : Bool)
      → (was || not (same_bytes (part at (length s) screen) s) || not (same_bytes (part (at + length s) (length t) (patch at s screen)) t))
      ≡ (was || not (same_bytes (part at (length (s ++ t)) screen) (s ++ t)))
  marked-two was =
      rw (part-behind s screen at (at + length s) (omega arith) fits (length t))
      (marks was (same_bytes (part at (length s) screen) s) (same_bytes (part (at + length s) (length t) screen) t)
      ∙ ap (λ same. was || not same) same-two)

pub put_two : (at : ℕ) (s t : List ℕ) (p : Sheet) → at + length s ≤ length p.screen
    → put (at + length s) t (put at s p) ≡ put at (s ++ t) p
put_two at s t p fits =
    let marked = marked-two at s t p.screen fits p.pen.changed in
    let screens = patch-behind s t p.screen at (length s) refl fits in
    λ i. record {
      pen = record { y = p.pen.y; x = p.pen.x; changed = marked i; named = p.pen.named };
      screen = screens i;
    }

-- In a row of the window, a letter is painted between column c and column c + W only.
module _ (f : Frame) (p : Sheet) (h : InRow f p.pen.y p.screen) where
  not-over : over f p.pen ≡ false
  not-over = lt-leb (f.r + f.h) p.pen.y h.bottom

  not-above : above f p.pen ≡ false
  not-above = le-ltb p.pen.y f.r h.top

  letter-left : (b : ℕ) → p.pen.x < f.c → letter f b p ≡ along 1 p
  unfolding letter
  letter-left b left = rw (not-over, not-above, lt-leb f.c p.pen.x left)

  letter-right : (b : ℕ) → f.c + f.w ≤ p.pen.x → letter f b p ≡ along 1 p
  unfolding letter
  letter-right b right =
      let left : f.c ≤ p.pen.x = omega arith in
      rw (not-over, not-above, le-leb f.c p.pen.x left, le-ltb p.pen.x (f.c + f.w) right)

  letter-between : (b : ℕ) → f.c ≤ p.pen.x → p.pen.x < f.c + f.w → letter f b p ≡ along 1 (put (next_cell f p.pen) (b ∷ []) p)
  unfolding letter
  letter-between b left right = rw (not-over, not-above, le-leb f.c p.pen.x left, lt-ltb p.pen.x (f.c + f.w) right)

along-put : (n at : ℕ) (s : List ℕ) (p : Sheet) → along n (put at s (along 1 p)) ≡ along (suc n) (put at s p)
along-put n at s p =
    let e : p.pen.x + 1 + n ≡ p.pen.x + suc n = omega arith in
    ap (λ x. moved p.pen.y x (put at s p)) e

-- A run has no newline in it.
abbrev pub Run : List ℕ → Type 0
Run u = every (λ b. not (eqb b newline)) u ≡ true

run-rest : (b : ℕ) (u : List ℕ) → Run (b ∷ u) → Run u
unfolding every
run-rest b u unbroken = and_right (not (eqb b newline)) _ unbroken

run-letter : (f : Frame) (b : ℕ) (u : List ℕ) (p : Sheet) → Run (b ∷ u) → paint f (b ∷ u) p ≡ paint f u (letter f b p)
unfolding every paint
run-letter f b u p unbroken =
    let no-newline = not-true (eqb b newline) (and_left (not (eqb b newline)) _ unbroken) in
    ap (paint f u) (cond-false (line_end f p) (letter f b p) no-newline)

take-drop-nil : (i k : ℕ) → ◌≡◌ {A = List ℕ} (take k (drop i [])) []
take-drop-nil i k = ap (take k) (drop-nil i) ∙ take-nil k

-- The pen at column x goes one column on: left of column c, right of column c + w, or between them.
module _ (c w x : ℕ) where
  left-of : (i k : ℕ) → suc i ≡ c - x → k ≡ c + w - (x + suc i)
      → (x < c) × (i ≡ c - (x + 1)) × (k ≡ c + w - (x + 1 + i)) × (min (x + 1 - c) w ≡ min (x - c) w)
  left-of i k ei ek = omega arith

  right_of_lem : 0 ≡ c - x → 0 ≡ c + w - (x + 0) → (c + w ≤ x) × (0 ≡ c - (x + 1)) × (0 ≡ c + w - (x + 1 + 0))
  right_of_lem ei ek = omega arith

  between : (k : ℕ) → 0 ≡ c - x → suc k ≡ c + w - (x + 0)
      → (c ≤ x) × (x < c + w) × (0 ≡ c - (x + 1)) × (k ≡ c + w - (x + 1 + 0))
      × (min (x + 1 - c) w ≡ min (x - c) w + 1)
  between k ei ek = omega arith

-- What of it lies in the window is put in one go: of the bytes from column c on, i bytes behind the pen, those in the k columns left.
module _ (f : Frame) where
  run-painted : (u : List ℕ) (p : Sheet) (i k : ℕ) → InRow f p.pen.y p.screen → Run u
      → i ≡ f.c - p.pen.x → k ≡ f.c + f.w - (p.pen.x + i)
      → paint f u p ≡ along (length u) (put (next_cell f p.pen) (take k (drop i u)) p)
  unfolding paint
  run-painted [] p i k h unbroken ei ek =
      let here : p.pen.x ≡ p.pen.x + 0 = omega arith in
      ap (λ x. moved p.pen.y x p) here ∙ sym (ap (along 0) (rw (take-drop-nil i k) (put-none (next_cell f p.pen) p)))
  run-painted (b ∷ u) p (suc i) k h unbroken ei ek =
      let numbers = left-of f.c f.w p.pen.x i k ei ek in
      run-letter f b u p unbroken
      ∙ ap (paint f u) (letter-left f p h b numbers.0)
      ∙ run-painted u (along 1 p) i k h (run-rest b u unbroken) numbers.1 numbers.2
      ∙ along-put (length u) (next_cell f (along 1 p).pen) (take k (drop i u)) p
      ∙ ap (λ n. along (suc (length u)) (put ((p.pen.y - f.r) * f.w + n) (take k (drop i u)) p)) numbers.3
  run-painted (b ∷ u) p zero zero h unbroken ei ek =
      let numbers = right_of_lem f.c f.w p.pen.x ei ek in
      run-letter f b u p unbroken
      ∙ ap (paint f u) (letter-right f p h b numbers.0)
      ∙ run-painted u (along 1 p) 0 0 h (run-rest b u unbroken) numbers.1 numbers.2
      ∙ along-put (length u) (next_cell f (along 1 p).pen) [] p
      ∙ ap (along (suc (length u))) (put-none (next_cell f (along 1 p).pen) p ∙ sym (put-none (next_cell f p.pen) p))
  run-painted (b ∷ u) p zero (suc k) h unbroken ei ek =
      let numbers = between f.c f.w p.pen.x k ei ek in
      let next : next_cell f (along 1 p).pen ≡ next_cell f p.pen + 1 = omega arith in
      let fits = letter-fits f p h numbers.0 numbers.1 in
      let same = length-patch (next_cell f p.pen) (b ∷ []) p.screen fits ∙ h.long in
      let written = put (next_cell f p.pen) (b ∷ []) p in
      run-letter f b u p unbroken
      ∙ ap (paint f u) (letter-between f p h b numbers.0 numbers.1)
      ∙ run-painted u (along 1 written) 0 k (record { long = same; top = h.top; bottom = h.bottom }) (run-rest b u unbroken)
      numbers.2 numbers.3
      ∙ along-put (length u) (next_cell f (along 1 p).pen) (take k u) written
      ∙ ap (λ at. along (suc (length u)) (put at (take k u) written)) next
      ∙ ap (along (suc (length u))) (put_two (next_cell f p.pen) (b ∷ []) (take k u) p fits)

-- No more can be taken than there is.
take_min : (k : ℕ) (s : List ℕ) → take k s ≡ take (min k (length s)) s
take_min k s = sym (take-least k (length s) s ∙ take_all (length s) (take k s) (simp length-take (omega arith)))

-- The run between the first and the last column that it shows, as code finds them.
abbrev pub lowest : Frame → Sheet → ℕ
lowest f p = max f.c p.pen.x

abbrev pub highest : Frame → ℕ → Sheet → ℕ
highest f n p = min (f.c + f.w) (p.pen.x + n)

module _ (c w x n : ℕ) where
  stretch : (i : ℕ) → min (c + w - (x + i)) (n - i) ≡ min (c + w) (x + n) - (x + i)
  stretch i = omega arith

  first-column : max c x ≡ x + (c - x)
  first-column = omega arith

  stretch-length : min (c + w - (x + (c - x))) (n - (c - x)) ≡ min (c + w) (x + n) - max c x
  stretch-length = stretch (c - x) ∙ ap (λ low. min (c + w) (x + n) - low) (sym first-column)

  first_byte : c - x ≡ max c x - x
  first_byte = omega arith

  first_cell : max c x < min (c + w) (x + n) → min (x - c) w ≡ max c x - c
  first_cell some = omega arith

-- How many bytes of a run stand before column c, and how many columns are left from there.
abbrev before : Frame → Sheet → ℕ
before f p = f.c - p.pen.x

abbrev left : Frame → Sheet → ℕ
left f p = f.c + f.w - (p.pen.x + before f p)

module _ (f : Frame) (u : List ℕ) (p : Sheet) (h : InRow f p.pen.y p.screen) (run : Run u) where
  from-c : paint f u p ≡ along (length u) (put (next_cell f p.pen) (take (left f p) (drop (before f p) u)) p)
  from-c = run-painted f u p (before f p) (left f p) h run refl refl

  shown : take (left f p) (drop (before f p) u) ≡ part (lowest f p - p.pen.x) (highest f (length u) p - lowest f p) u
  unfolding part
  shown =
      take_min (left f p) (drop (before f p) u)
      ∙ ap (λ n. take (min (left f p) n) (drop (before f p) u)) (length-drop (before f p) u)
      ∙ ap (λ k. take k (drop (before f p) u)) (stretch-length f.c f.w p.pen.x (length u))
      ∙ ap (λ i. take (highest f (length u) p - lowest f p) (drop i u)) (first_byte f.c f.w p.pen.x (length u))

  -- Nothing of it is in the window, or a stretch is put in one go.
  pub paint-run-none : highest f (length u) p ≤ lowest f p → paint f u p ≡ along (length u) p
  unfolding part
  paint-run-none none =
      let empty : highest f (length u) p - lowest f p ≡ 0 = omega arith in
      from-c
      ∙ ap (λ s. along (length u) (put (next_cell f p.pen) s p)) (shown ∙ ap (λ k. take k (drop (lowest f p - p.pen.x) u)) empty)
      ∙ ap (along (length u)) (put-none (next_cell f p.pen) p)

  pub paint-run : lowest f p < highest f (length u) p
      → paint f u p
      ≡ along (length u)
      (put ((p.pen.y - f.r) * f.w + (lowest f p - f.c)) (part (lowest f p - p.pen.x) (highest f (length u) p - lowest f p) u) p)
  paint-run some =
      from-c
      ∙ ap₂ (λ n s. along (length u) (put ((p.pen.y - f.r) * f.w + n) s p)) (first_cell f.c f.w p.pen.x (length u) some) shown
