-- Laws of a screen that is painted from the top: the cells so far are the new screen's, and the rows so far are named.
use mathlib.Core.Path.{◌≡◌, refl, sym, ap, ap₂, subst₂, ◌∙◌}
use mathlib.Core.Logic.{⊎_elim}
use mathlib.Core.Bool.{Bool, true, false, not, ◌&&◌, ◌||◌, cond}
use mathlib.Core.List.{List, ◌++◌, append_assoc, append-nil}
use Prim.Native.Nat.{ℕ, suc, ◌+◌, ◌-◌, ◌*◌, ◌≤◌, ◌<◌}
use native.Mathlib.Nat.{zero-mul, suc-mul, eq-or-lt_of_le}
use native.Mathlib.Omega.{arith}
use lib.ListN.{length, take, drop, length-append, length-take, length-drop, drop_of_length-le}
use lib.Seq.{length-take-le, take-add, take_at, take_all, drop_at, drop-drop}
use Rattle.std.specs.Prelude.{Option, None, Some}
use Rattle.gap.specs.Rules.Sequence.{same_bytes, part, patch}
use Rattle.gap.proofs.Laws.Tests.{clash}
use Rattle.gap.proofs.Laws.Compared.{same_parts}
use Rattle.window.specs.Words.{Frame}
use Rattle.window.specs.Rules.Rows.{changed, first_row, last_row}
use Rattle.window.specs.declared.Rows.{Rows}
use Rattle.window.specs.Wording.Painter.{Sheet, begun, put, with_row, row_below, rows_in, FromOne}
use Rattle.window.proofs.Laws.Rows.{Ends, Named, nothing, run, named}
use Rattle.window.proofs.Laws.Paint.{moved}

-- What fails up to n and at n + 1 fails up to n + 1.
fails-up : (test : ℕ → Bool) (n i : ℕ) → test (suc n) ≡ false → (i ≤ n → test i ≡ false) → i ≤ suc n → test i ≡ false
fails-up test n i e lower high = ⊎_elim (λ same. ap test same ∙ e) (λ less. lower (omega arith)) (eq-or-lt_of_le high)

-- The rows that the pen has named are those that pass up to n: none, or from the first to the last.
abbrev pub NamedRows : (ℕ → Bool) → ℕ → Option Rows → Type 0
NamedRows test n None = (i : ℕ) → 1 ≤ i → i ≤ n → test i ≡ false
NamedRows test n (Some rows) = Ends test n rows.first rows.last

-- One row more: where it passes it is the last, and the first if none passed before.
one-row-more : (test : ℕ → Bool) (n : ℕ) (rows : Option Rows) (this : Bool) → NamedRows test n rows → test (suc n) ≡ this
    → NamedRows test (suc n) (cond this (Some (with_row rows (suc n))) rows)
one-row-more test n None false none e = λ i low high. fails-up test n i e (none i low) high
one-row-more test n None true none e = record {
  low = omega arith;
  ordered = omega arith;
  high = omega arith;
  first_passes = e;
  last-passes = e;
  above = λ i low high. none i low (omega arith);
  below = λ i low high. absurd (omega arith);
}
one-row-more test n (Some rows) false ends e = record {
  low = ends.low;
  ordered = ends.ordered;
  high = omega arith;
  first_passes = ends.first_passes;
  last-passes = ends.last-passes;
  above = ends.above;
  below = λ i low high. fails-up test n i e (ends.below i low) high;
}
one-row-more test n (Some rows) true ends e = record {
  low = ends.low;
  ordered = omega arith;
  high = omega arith;
  first_passes = ends.first_passes;
  last-passes = e;
  above = ends.above;
  below = λ i low high. absurd (omega arith);
}

-- As a call answers them.
rows-answered : (test : ℕ → Bool) (n : ℕ) (rows : Option Rows) → NamedRows test n rows
    → Named test n (rows_in rows).first (rows_in rows).last
rows-answered test n None none = nothing none
rows-answered test n (Some rows) ends = run {first = rows.first} {last = rows.last} ends

-- They are numbered from 1 on.
named-from-one : (test : ℕ → Bool) (n : ℕ) (rows : Option Rows) → NamedRows test n rows → FromOne rows
named-from-one test n None none = tt
named-from-one test n (Some rows) ends = ends.low

-- The rows that are so named are determined.
named-once : (test : ℕ → Bool) (H a b c d : ℕ) → Named test H a b → Named test H c d → (a ≡ c) × (b ≡ d)
named-once test H _ _ _ _ (nothing none) (nothing also) = (refl, refl)
named-once test H _ _ c d (nothing none) (run ends) = clash ends.first_passes (none c ends.low (omega arith))
named-once test H a b _ _ (run ends) (nothing none) = clash ends.first_passes (none a ends.low (omega arith))
named-once test H a b c d (run x) (run y) =
    let p : ¬ (a < c) = λ h. clash x.first_passes (y.above a x.low h) in
    let q : ¬ (c < a) = λ h. clash y.first_passes (x.above c y.low h) in
    let r : ¬ (b < d) = λ h. clash y.last-passes (x.below d h y.high) in
    let s : ¬ (d < b) = λ h. clash x.last-passes (y.below b h x.high) in
    (omega arith, omega arith)

-- A screen that is the new one up to index k, where the next cells of the new one are put.
module _ (k : ℕ) (next old new : List ℕ) (fits : k + length next ≤ length new) (same : next ≡ part k (length next) new) where
  front : length (take k new) ≡ k
  front = length-take-le k new (omega arith)

  patch-on : patch k next (take k new ++ drop k old) ≡ take (k + length next) new ++ drop (k + length next) old
  unfolding patch part
  patch-on =
      rw (take_at (take k new) (drop k old) k front, drop_at (take k new) (drop k old) k front, drop-drop, take-add, append_assoc)
      (ap (λ s. take k new ++ (s ++ drop (k + length next) old)) same)

  part-on : part k (length next) (take k new ++ drop k old) ≡ part k (length next) old
  unfolding part
  part-on = ap (take (length next)) (drop_at (take k new) (drop k old) k front)

either-differs : (a b : Bool) → (not a || not b) ≡ not (a && b)
either-differs true b = refl
either-differs false b = refl

-- n rows are painted, and m cells of the next one: the screen is the new one up to there, the row is marked where one of its m cells
-- was another one, and the rows that changed among the n are named.
pub record Reached (f : Frame) (old new : List ℕ) (n m : ℕ) (p : Sheet) : Type 0 where
  pub cells : p.screen ≡ take (n * f.w + m) new ++ drop (n * f.w + m) old
  pub mark : p.pen.changed ≡ not (same_bytes (part (n * f.w) m old) (part (n * f.w) m new))
  pub rows : NamedRows (changed f.w old new) n p.pen.named

module _ (f : Frame) (old new : List ℕ) where
  pub reached-none : Reached f old new 0 0 (begun old)
  unfolding part same_bytes
  reached-none =
      let start : 0 ≡ 0 * f.w + 0 = omega (arith, zero-mul f.w) in
      record { cells = ap (λ k. take k new ++ drop k old) start; mark = refl; rows = λ i low high. absurd (omega arith) }

  pub reached-moved : (n m y x : ℕ) (p : Sheet) → Reached f old new n m p → Reached f old new n m (moved y x p)
  reached-moved n m y x p so_far = record { cells = so_far.cells; mark = so_far.mark; rows = so_far.rows }

  pub reached-at : {n m a b : ℕ} {p : Sheet} → n ≡ a → m ≡ b → Reached f old new n m p → Reached f old new a b p
  reached-at {p = p} same also so_far = subst₂ (λ a b. Reached f old new a b p) same also so_far

  module _ (old-size : length old ≡ f.h * f.w) (new-size : length new ≡ f.h * f.w) where
    pub reached-long : (n m : ℕ) (p : Sheet) → Reached f old new n m p → length p.screen ≡ f.h * f.w
    reached-long n m p so_far = ap length so_far.cells ∙ simp (length-append, length-take, length-drop) (omega arith)

    -- The next cells are put.
    pub reached-put : (n m : ℕ) (next : List ℕ) (p : Sheet) → n * f.w + m + length next ≤ length p.screen
        → next ≡ part (n * f.w + m) (length next) new
        → Reached f old new n m p
        → Reached f old new n (m + length next) (put (n * f.w + m) next p)
    reached-put n m next p fits same so_far =
        let start = n * f.w in
        let size = length next in
        let behind : start + m + size ≡ start + (m + size) = omega arith in
        let room : start + m + size ≤ length new = omega (arith, reached-long n m p so_far) in
        let here = ap (part (start + m) size) so_far.cells ∙ part-on (start + m) next old new room same in
        record {
          cells =
              ap (patch (start + m) next) so_far.cells
              ∙ patch-on (start + m) next old new room same
              ∙ ap (λ k. take k new ++ drop k old) behind;
          mark =
              ap₂ ◌||◌ so_far.mark (ap₂ (λ s t. not (same_bytes s t)) here same)
              ∙ either-differs (same_bytes (part start m old) (part start m new)) _
              ∙ ap not (same_parts start m size old new (omega arith) (omega arith));
          rows = so_far.rows;
        }

    -- The row is finished.
    pub reached-row : (n : ℕ) (p : Sheet) → p.pen.y - f.r ≡ n → Reached f old new n f.w p
        → Reached f old new (suc n) 0 (row_below f p)
    unfolding part same_bytes
    reached-row n p here so_far =
        let down : n * f.w + f.w ≡ suc n * f.w + 0 = omega (arith, suc-mul n f.w) in
        let row : p.pen.y - f.r + 1 ≡ suc n = omega arith in
        let back : suc n - 1 ≡ n = omega arith in
        let this = ap (λ a. not (same_bytes (part (a * f.w) f.w old) (part (a * f.w) f.w new))) back ∙ sym so_far.mark in
        record {
          cells = so_far.cells ∙ ap (λ k. take k new ++ drop k old) down;
          mark = refl;
          rows = rw row (one-row-more (changed f.w old new) n p.pen.named p.pen.changed so_far.rows this);
        }

    -- All rows are painted.
    pub reached-all : (p : Sheet) → Reached f old new f.h 0 p
        → (p.screen ≡ new)
        × (rows_in p.pen.named ≡ record { first = first_row f.h f.w old new; last = last_row f.h f.w old new })
        × FromOne p.pen.named
    reached-all p so_far =
        let end : f.h * f.w + 0 ≡ f.h * f.w = omega arith in
        let all = take_all (f.h * f.w) new (omega arith) in
        let none = drop_of_length-le old {i = f.h * f.w} (omega arith) in
        let answered = rows-answered (changed f.w old new) f.h p.pen.named so_far.rows in
        let rows = named-once (changed f.w old new) f.h _ _ _ _ answered (named f.h f.w old new) in (
          so_far.cells ∙ rw (end, all, none) (append-nil new),
          λ i. record { first = rows.0 i; last = rows.1 i },
          named-from-one (changed f.w old new) f.h p.pen.named so_far.rows,
        )
