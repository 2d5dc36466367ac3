-- Laws of the pieces that the painter is given: one that starts above the window, pieces one after the other, and that they make up
-- the virtual text.
use mathlib.Core.Path.{◌≡◌, refl, sym, ap, ◌∙◌}
use mathlib.Core.Bool.{false}
use mathlib.Core.List.{List, [], ◌∷◌, ◌++◌, append_assoc, append-nil}
use Prim.Native.Nat.{ℕ, ◌+◌, ◌-◌, ◌^◌, ◌≤◌, ◌<◌}
use native.Mathlib.Nat.{le_refl}
use native.Mathlib.Omega.{arith}
use native.Mathlib.Numerals.{add-one}
use lib.ListN.{length, take, drop, get_or, take-append-drop, length-append, drop_of_length-le}
use lib.Seq.{drop-cons}
use borrow.Author.Tests.{le-ltb}
use Rattle.gap.specs.Rules.Doc.{content}
use Rattle.gap.specs.Rules.Layout.{ungap}
use Rattle.gap.specs.Rules.Lines.{newline, newlines, since_after}
use Rattle.gap.proofs.Laws.Runs.{tail_of, tail-lent}
use Rattle.window.specs.Words.{Quoted, Frame}
use Rattle.window.specs.Rules.Window.{virtual_in, joined}
use Rattle.window.specs.Wording.Painter.{Sheet, begun, above, paint, Easel, Canvas, LineStart}
use Rattle.window.proofs.Laws.Paint.{moved, paint-append, paint-above, paint-top, paint-from, easel-on, easel-less}

-- A piece that lies above the window: only its newlines and the column at its end count.
pub piece-above : (f : Frame) (t : List ℕ) (p : Sheet) {count column : ℕ} → count ≡ newlines t → column ≡ since_after p.pen.x t
    → p.pen.y + count < f.r → moved (p.pen.y + count) column p ≡ paint f t p
piece-above f t p counted here up = rw (counted, here) (sym (paint-above f t p (omega arith)))

-- A piece that reaches into the window from above, and the index in it where the window's first line starts.
pub record FirstLine (f : Frame) (t : List ℕ) (p : Sheet) (at : ℕ) : Type 0 where
  pub up : p.pen.y < f.r
  pub low : f.r ≤ p.pen.y + newlines t
  pub start : LineStart t (p.pen.y + newlines t - f.r) at

module _ (f : Frame) (t : List ℕ) (p : Sheet) {count : ℕ} (counted : count ≡ newlines t) (up : p.pen.y < f.r)
    (low : f.r ≤ p.pen.y + count) where
  pub first-line : {at : ℕ} → LineStart t (p.pen.y + count - f.r) at → FirstLine f t p at
  first-line start = record { up = up; low = omega arith; start = rw counted at start }

-- From there on it is drawn.
module _ {f : Frame} {t : List ℕ} {p : Sheet} {at : ℕ} (first : FirstLine f t p at) where
  pub piece-asked : Easel f (length t) p
      → Easel f (length (tail_of at t)) (moved f.r 0 p) × (above f (moved f.r 0 p).pen ≡ false)
  piece-asked e =
      let at_top = paint-top f (take at t) p first.up (omega (arith, first.start.lines)) first.start.start in
      let sizes : length t ≡ length (take at t) + length (tail_of at t) = rw (tail-lent, ← length-append, take-append-drop) in
      (rw (← at_top) (easel-on f (take at t) (length (tail_of at t)) p (rw (← sizes) e)), le-ltb f.r f.r (le_refl f.r))

  pub piece-painted : paint f (tail_of at t) (moved f.r 0 p) ≡ paint f t p
  piece-painted = rw tail-lent (sym (paint-from f t p at first.up first.low first.start))

pub canvas-easel : {f : Frame} {n : ℕ} {screen : List ℕ} → Canvas f n screen → (m : ℕ) → m ≤ 2 ^ 40 → Easel f m (begun screen)
canvas-easel canvas m short =
    record { long = canvas.long; rows = canvas.rows; columns = canvas.columns; offsets = canvas.offsets; pen = omega arith }

-- One piece after the other: of all pieces i are painted, and those that are left decide.
pub record Pieces (f : Frame) (pieces : List (List ℕ)) (first : Sheet) (i : ℕ) (p : Sheet) : Type 0 where
  pub easel : Easel f (length (joined (drop i pieces))) p
  pub rest : paint f (joined pieces) first ≡ paint f (joined (drop i pieces)) p

pub pieces_none : {f : Frame} {pieces : List (List ℕ)} {first : Sheet} → Easel f (length (joined pieces)) first → Pieces f pieces first 0 first
pieces_none easel = record { easel = easel; rest = refl }

module _ {f : Frame} {pieces : List (List ℕ)} {first : Sheet} {i : ℕ} {p : Sheet} (so_far : Pieces f pieces first i p) where
  pub pieces-all : length pieces ≤ i → p ≡ paint f (joined pieces) first
  unfolding joined paint
  pieces-all end = sym (so_far.rest ∙ rw drop_of_length-le)

  -- The next one.
  module _ (more : i < length pieces) {t : List ℕ} (this : get_or pieces i [] ≡ t) where
    pub piece-next : joined (drop i pieces) ≡ t ++ joined (drop (i + 1) pieces)
    unfolding joined
    piece-next = rw (drop-cons pieces i [] more, this, add-one)

    room : Easel f (length t + length (joined (drop (i + 1) pieces))) p
    room = rw (piece-next, length-append t (joined (drop (i + 1) pieces))) at so_far.easel

    pub piece-room : Easel f (length t) p
    piece-room = easel-less f (length t + length (joined (drop (i + 1) pieces))) (length t) p (omega arith) room

    pub pieces-on : {q : Sheet} → q ≡ paint f t p → Pieces f pieces first (i + 1) q
    pieces-on {q} e =
        let behind = joined (drop (i + 1) pieces) in
        record {
          easel = rw e (easel-on f t (length behind) p room);
          rest = so_far.rest ∙ ap (λ u. paint f u p) piece-next ∙ paint-append f t behind p ∙ ap (paint f behind) (sym e);
        }

-- The pieces make up the virtual text.
module _ (l r : ℕ) (text : List ℕ) where
  pub main-pieces : joined (take l text ∷ tail_of (length text - r) text ∷ []) ≡ content (ungap l r text)
  unfolding ungap joined
  main-pieces = simp (tail-lent, append-nil)

  pub quoted-pieces : (q s : ℕ) (quarter : List ℕ)
      → joined (take l text ∷ (newline ∷ 62 ∷ []) ∷ take q quarter ∷ tail_of (length quarter - s) quarter ∷ (newline ∷ [])
      ∷ tail_of (length text - r) text ∷ [])
      ≡ content (virtual_in Quoted (ungap l r text) (ungap q s quarter))
  unfolding ungap virtual_in joined
  quoted-pieces q s quarter = simp (tail-lent, append_assoc, append-nil)
