-- Laws of the rows of a screen, of the named rows, and of the terminal that repaints them.
use Rattle.std.proofs.Common.{Option, Some, None}
use mathlib.Core.Path.{◌≡◌, refl, sym, ap, ◌∙◌}
use mathlib.Core.Logic.{◌≢◌}
use mathlib.Core.Bool.{Bool, true, false}
use mathlib.Core.List.{List, [], ◌++◌, append-nil}
use Prim.Native.Nat.{ℕ, zero, suc, ◌+◌, ◌-◌, ◌*◌, ◌≤◌, ◌<◌}
use native.Mathlib.Nat.{zero-mul, suc-mul, add-mul}
use native.Mathlib.Omega.{arith}
use lib.ListN.{length, take, drop, length-drop, drop_of_length-le}
use lib.Seq.{take_all, take-add, drop-drop}
use borrow.Author.Tests.{not-true, not-false, ne_eqb}
use Rattle.gap.specs.Rules.Sequence.{same_bytes, part}
use Rattle.gap.specs.Rules.Nearest.{nearest}
use Rattle.gap.proofs.Laws.Tests.{clash, cond-false}
use Rattle.gap.proofs.Laws.Sequence.{same_refl, same-equal}
use Rattle.gap.proofs.Laws.Nearest.{reached-least, nowhere-none}
use Rattle.gap.proofs.Laws.Layout.{cut}
use Rattle.window.specs.Rules.Rows.{screen_row, changed, or_none, from_below, first_row, last_row}
use Rattle.window.specs.Rules.Terminal.{repaint}

-- The test of a row tells whether it differs.
pub unchanged-same : (W : ℕ) (old new : List ℕ) (i : ℕ) → changed W old new i ≡ false → screen_row W i old ≡ screen_row W i new
unchanged-same W old new i e = same-equal (screen_row W i old) (screen_row W i new) (not-false _ e)

pub changed-differs : (W : ℕ) (old new : List ℕ) (i : ℕ) → changed W old new i ≡ true → screen_row W i old ≢ screen_row W i new
changed-differs W old new i e same =
    clash (ap (λ row. same_bytes (screen_row W i old) row) (sym same) ∙ same_refl (screen_row W i old)) (not-true _ e)

-- A run of rows is its first row and the rows below that.
pub run-split : (W a n : ℕ) (s : List ℕ) → part (a * W) (suc n * W) s ≡ screen_row W (suc a) s ++ part (suc a * W) (n * W) s
unfolding part
run-split W a n s =
    let here : suc a - 1 ≡ a = omega arith in
    let size : suc n * W ≡ W + n * W = omega (arith, suc-mul n W) in
    rw (here, size, suc-mul a W, ← drop-drop W (a * W) s) (take-add W (n * W) (drop (a * W) s))

-- Two screens that agree in each of the n rows below row a agree in that part.
pub rows_agree : (W a n : ℕ) (old new : List ℕ)
    → ((i : ℕ) → a < i → i ≤ a + n → screen_row W i old ≡ screen_row W i new) → part (a * W) (n * W) old ≡ part (a * W) (n * W) new
unfolding part
rows_agree W a zero old new same = rw zero-mul
rows_agree W a (suc n) old new same =
    run-split W a n old
    ∙ ap (λ row. row ++ part (suc a * W) (n * W) old) (same (suc a) (omega arith) (omega arith))
    ∙ ap (λ rows. screen_row W (suc a) new ++ rows) (rows_agree W (suc a) n old new (λ i low high. same i (omega arith) (omega arith)))
    ∙ sym (run-split W a n new)

above-agree : (W n : ℕ) (old new : List ℕ)
    → ((i : ℕ) → 1 ≤ i → i ≤ n → screen_row W i old ≡ screen_row W i new) → take (n * W) old ≡ take (n * W) new
unfolding part
above-agree W n old new same = rw zero-mul at (rows_agree W 0 n old new (λ i low high. same i low (omega arith)))

-- Of a screen of H rows, those below row n are all that is left.
below-part : (H W n : ℕ) (s : List ℕ) → length s ≡ H * W → n ≤ H → part (n * W) ((H - n) * W) s ≡ drop (n * W) s
unfolding part
below-part H W n s size fits =
    let rows : H ≡ n + (H - n) = omega arith in
    take_all ((H - n) * W) (drop (n * W) s) (simp length-drop (omega (arith, ap (λ m. m * W) rows, add-mul n (H - n) W)))

-- first and last are the least and the greatest of the numbers 1 to H that pass the test.
pub record Ends (test : ℕ → Bool) (H first last : ℕ) : Type 0 where
  pub low : 1 ≤ first
  pub ordered : first ≤ last
  pub high : last ≤ H
  pub first_passes : test first ≡ true
  pub last-passes : test last ≡ true
  pub above : (i : ℕ) → 1 ≤ i → i < first → test i ≡ false
  pub below : (i : ℕ) → last < i → i ≤ H → test i ≡ false

-- The two numbers name such a run, or none passes and both are 0.
pub data Named (test : ℕ → Bool) (H : ℕ) : ℕ → ℕ → Type 0 where
  nothing : ((i : ℕ) → 1 ≤ i → i ≤ H → test i ≡ false) → Named test H 0 0
  run : {first last : ℕ} → Ends test H first last → Named test H first last

-- A row counted from below is counted from above again.
turned-back : (H i : ℕ) → i ≤ H → suc H - (suc H - i) ≡ i
turned-back H i high = omega arith

-- The search from both ends, as for the named rows: downward from 1, and upward from H.
module _ (test : ℕ → Bool) (H : ℕ) where
  abbrev upward : ℕ → Bool
  upward i = test (suc H - i)

  searched : (down up : Option ℕ) → nearest test H 1 ≡ down → nearest upward H 1 ≡ up → Named test H (or_none down) (from_below H up)
  searched (Some i) (Some j) p q =
      let least = reached-least test H 1 i p in
      let greatest = reached-least upward H 1 j q in
      let not-crossed : ¬ (suc H - j < i) = λ h. clash greatest.passes (least.before (suc H - j) (omega arith) h) in
      run {last = suc H - j} (record {
        low = least.from;
        ordered = omega arith;
        high = omega arith;
        first_passes = least.passes;
        last-passes = greatest.passes;
        above = least.before;
        below = λ k low high. rw (turned-back H k high) at (greatest.before (suc H - k) (omega arith) (omega arith));
      })
  searched (Some i) None p q =
      let least = reached-least test H 1 i p in
      let unchanged = nowhere-none upward H 1 q (suc H - i) (omega arith) (omega arith) in
      clash least.passes (rw (turned-back H i (omega arith)) at unchanged)
  searched None (Some j) p q =
      let greatest = reached-least upward H 1 j q in
      clash greatest.passes (nowhere-none test H 1 p (suc H - j) (omega arith) (omega arith))
  searched None None p q = nothing (λ i low high. nowhere-none test H 1 p i low (omega arith))

-- The first and the last named row are named so by the test of rows.
pub named : (H W : ℕ) (old new : List ℕ) → Named (changed W old new) H (first_row H W old new) (last_row H W old new)
unfolding first_row last_row
named H W old new = searched (changed W old new) H _ _ refl refl

module _ (H W : ℕ) (old new : List ℕ) (old-size : length old ≡ H * W) (new-size : length new ≡ H * W) where
  below-agree : (n : ℕ) → n ≤ H → ((i : ℕ) → n < i → i ≤ H → screen_row W i old ≡ screen_row W i new)
      → drop (n * W) old ≡ drop (n * W) new
  below-agree n fits same =
      sym (below-part H W n old old-size fits)
      ∙ rows_agree W n (H - n) old new (λ i low high. same i low (omega arith))
      ∙ below-part H W n new new-size fits

  -- Screens that agree in every row are the same.
  pub all-agree : ((i : ℕ) → 1 ≤ i → i ≤ H → screen_row W i old ≡ screen_row W i new) → old ≡ new
  all-agree same = rw zero-mul at (below-agree 0 (omega arith) same)

  repaint-named : (first last : ℕ) → Named (changed W old new) H first last → repaint W first last new old ≡ new
  unfolding repaint
  repaint-named _ _ (nothing none) = all-agree (λ i low high. unchanged-same W old new i (none i low high))
  repaint-named _ _ (run {first} {last} ends) =
      let rows : last ≡ (first - 1) + (suc last - first) = omega arith in
      let above = above-agree W (first - 1) old new (λ i low high. unchanged-same W old new i (ends.above i low (omega arith))) in
      let below = below-agree last ends.high (λ i low high. unchanged-same W old new i (ends.below i low high)) in
      cond-false _ _ (ne_eqb first 0 (omega arith))
      ∙ rw (above, below, ap (λ n. n * W) rows, add-mul) (cut ((first - 1) * W) ((suc last - first) * W) new)

  -- A terminal that shows the old screen and repaints the named rows shows the new one.
  pub repainted : repaint W (first_row H W old new) (last_row H W old new) new old ≡ new
  repainted = repaint-named _ _ (named H W old new)

  -- Where every row is named it shows the new one, whatever it showed before.
  pub repaint-all : 1 ≤ H → repaint W 1 H new old ≡ new
  unfolding repaint part
  repaint-all some =
      let rows : suc H - 1 ≡ H = omega arith in
      let screen : take (H * W) new ≡ new = take_all (H * W) new (omega arith) in
      let left : drop (H * W) old ≡ [] = drop_of_length-le old {i = H * W} (omega arith) in
      rw (zero-mul, rows, screen, left) (append-nil new)
