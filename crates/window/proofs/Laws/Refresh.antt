-- Laws of the refresh: the painted pieces are the virtual text, its end is in the window because the cursor is visible, and the finished
-- painting is the window with the named rows.
use mathlib.Core.Path.{◌≡◌, sym}
use mathlib.Core.Bool.{true, false}
use mathlib.Core.List.{List}
use Prim.Native.Nat.{ℕ, ◌+◌, ◌^◌, ◌≤◌}
use native.Mathlib.Omega.{arith}
use lib.ListN.{length, take, length-append, length-take, length-drop}
use lib.Seq.{length-take-le}
use Rattle.gap.specs.Rules.Doc.{Doc, content}
use Rattle.gap.specs.Rules.Lines.{newlines}
use Rattle.gap.specs.Rules.Layout.{ungap}
use Rattle.gap.proofs.Laws.Lines.{newlines-append}
use Rattle.editor.specs.Rules.Bytes.{quarter, quarter_of}
use Rattle.window.specs.Words.{Lengths, Mode, Main, Quoted, Frame}
use Rattle.window.specs.Rules.Window.{virtual_in, visible}
use Rattle.window.specs.Wording.Painter.{Sheet, begun, above, paint, finish_paint, Easel, Canvas}
use Rattle.window.specs.Wording.Calls.{Texts, virtual_held, Refreshed}
use Rattle.window.proofs.Laws.Window.{visible-says}
use Rattle.window.proofs.Laws.Spots.{first-quarter}
use Rattle.window.proofs.Laws.Paint.{paint-not-above, easel-on}
use Rattle.window.proofs.Laws.Painter.{painted}
use Rattle.window.proofs.Laws.Pieces.{canvas-easel}

-- The virtual text that the stores hold, by mode.
module _ (n : Lengths) (text side : List ℕ) where
  pub main-held : n.mode ≡ Main → ungap n.main.l n.main.r text ≡ virtual_held n text side
  unfolding virtual_in
  main-held mode = rw mode

  pub quoted-held : n.mode ≡ Quoted
      → virtual_in Quoted (ungap n.main.l n.main.r text) (ungap n.quoted.l n.quoted.r (take quarter side))
      ≡ virtual_held n text side
  unfolding quarter
  quoted-held mode = rw (mode, first-quarter)

-- The quotation's quarter is as long as a quarter.
pub quarter-size : {n : Lengths} {text side : List ℕ} → Texts n text side → quarter ≡ length (take quarter side)
unfolding quarter
quarter-size {side = side} texts = sym (length-take-le quarter side (omega arith))

-- The virtual text is short.
length-virtual : (m : Mode) (d q : Doc)
    → length (content (virtual_in m d q)) ≤ length d.l + length d.r + (length q.l + length q.r + 3)
unfolding virtual_in
length-virtual Main d q = simp length-append (omega arith)
length-virtual Quoted d q = simp length-append (omega arith)

length-ungap : (l r : ℕ) (s : List ℕ) → length (ungap l r s).l + length (ungap l r s).r ≤ length s + length s
unfolding ungap
length-ungap l r s = simp (length-take, length-drop) (omega arith)

length-held : (n : Lengths) (text side : List ℕ) → Texts n text side → length (content (virtual_held n text side)) ≤ 2 ^ 20
unfolding quarter
length-held n text side texts =
    let front = quarter_of quarter 0 side in
    let whole = length-virtual n.mode (ungap n.main.l n.main.r text) (ungap n.quoted.l n.quoted.r front) in
    let document = length-ungap n.main.l n.main.r text in
    let quotation = length-ungap n.quoted.l n.quoted.r front in
    let size : length front ≤ quarter = rw (first-quarter, length-take) (omega arith) in
    omega arith

-- Pieces that make it up can be painted.
pub pieces-asked : {f : Frame} {n : Lengths} {text side screen all : List ℕ} → Texts n text side → Canvas f (length text) screen
    → all ≡ content (virtual_held n text side) → Easel f (length all) (begun screen)
pieces-asked {n = n} {text} {side} texts canvas whole =
    rw whole (canvas-easel canvas (length (content (virtual_held n text side))) (omega (arith, length-held n text side texts)))

-- All pieces are painted, and what the refresh asked for holds.
pub record AllPainted (f : Frame) (n : Lengths) (text side screen : List ℕ) (p : Sheet) : Type 0 where
  pub texts : Texts n text side
  pub canvas : Canvas f (length text) screen
  pub seen : visible f (virtual_held n text side) ≡ true
  pub whole : p ≡ paint f (content (virtual_held n text side)) (begun screen)

pub all-painted : {f : Frame} {n : Lengths} {text side screen : List ℕ} {p : Sheet} → Texts n text side
    → Canvas f (length text) screen × (visible f (virtual_held n text side) ≡ true)
    → p ≡ paint f (content (virtual_held n text side)) (begun screen) → AllPainted f n text side screen p
all-painted texts ready e = record { texts = texts; canvas = ready.0; seen = ready.1; whole = e }

module _ {f : Frame} {n : Lengths} {text side screen : List ℕ} {p : Sheet} (all : AllPainted f n text side screen p) where
  -- The cursor is visible, so that the pen is not above the window.
  pub finish-asked : Easel f 65 p × (above f p.pen ≡ false)
  finish-asked =
      let d = virtual_held n text side in
      let top = (visible-says f d all.seen).top in
      let low : f.r ≤ (begun screen).pen.y + newlines (content d) = omega (arith, newlines-append d.l d.r) in
      let short : length (content d) + 65 ≤ 2 ^ 40 = omega (arith, length-held n text side all.texts) in
      rw all.whole (
        easel-on f (content d) 65 (begun screen) (canvas-easel all.canvas (length (content d) + 65) short),
        paint-not-above f (content d) (begun screen) all.canvas.long low,
      )

  pub refreshed : {q : Sheet} → q ≡ finish_paint f p → Refreshed f (virtual_held n text side) screen q.pen.named q.screen
  refreshed e =
      let done = painted f (virtual_held n text side) screen all.canvas.long in
      rw (e, all.whole) (record { screen = done.0; rows = done.1; from_one = done.2 })
