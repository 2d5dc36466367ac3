-- Laws of the rows that are sent: after them the machine shows what it showed before, repainted.
use mathlib.Core.Path.{◌≡◌, refl, sym, ap, ap₂, ◌∙◌}
use mathlib.Core.Bool.{true}
use mathlib.Core.List.{List, map, ◌++◌}
use Prim.Native.Nat.{ℕ, zero, suc, ◌+◌, ◌-◌, ◌*◌, ◌≤◌}
use native.Mathlib.Nat.{zero-mul, suc-mul, add-mul, mul-le-mul_right}
use native.Mathlib.Omega.{arith}
use lib.ListN.{length, drop}
use lib.Seq.{drop-drop}
use borrow.Author.Tests.{ne_eqb}
use Rattle.gap.specs.Rules.Sequence.{every, part, patch, counted}
use Rattle.gap.specs.Rules.Layout.{printable}
use Rattle.gap.proofs.Laws.Tests.{cond-false}
use Rattle.gap.proofs.Laws.Sequence.{every_take, every_drop, length_part}
use Rattle.gap.proofs.Laws.Runs.{length-patch, patch-none}
use Rattle.gap.proofs.Laws.Patches.{patch-behind}
use Rattle.window.specs.Rules.Window.{joined}
use Rattle.window.specs.Rules.Rows.{screen_row}
use Rattle.window.specs.Rules.Terminal.{repaint}
use Rattle.window.specs.Rules.Sequences.{sent_spot, sent_row, row_count, sent_rows}
use Rattle.window.specs.Rules.Machine.{Machine, cells, machine, feed}
use Rattle.window.proofs.Laws.Rows.{run-split}
use Rattle.window.proofs.Laws.Machine.{within-most, feed-append, feed-spot, feed-run}

-- What the machine shows after a run of bytes, and that it reads cells again; where it stands does not matter.
pub record Shows (m : Machine) (s : List ℕ) : Type 0 where
  pub bytes : m.shows ≡ s
  pub ready : m.reading ≡ cells

module _ (H W : ℕ) (screen : List ℕ) (wide : 1 ≤ W) (long : length screen ≡ H * W) (printed : every printable screen ≡ true) where
  -- n rows below row a lie on the screen.
  room : (a n : ℕ) → a + n ≤ H → a * W + n * W ≤ H * W
  room a n fits = omega (arith, add-mul a n W, mul-le-mul_right W fits)

  rows_long : (a n : ℕ) → a + n ≤ H → length (part (a * W) (n * W) screen) ≡ n * W
  rows_long a n fits = length_part (a * W) (n * W) screen (omega (arith, room a n fits))

  row-long : (a : ℕ) → a + 1 ≤ H → length (screen_row W (suc a) screen) ≡ W
  row-long a fits =
      let above : suc a - 1 ≡ a = omega arith in
      length_part ((suc a - 1) * W) W screen (rw above (omega (arith, room a 1 fits)))

  part-printed : (a n : ℕ) → every printable (part a n screen) ≡ true
  unfolding part
  part-printed a n = every_take printable n (drop a screen) (every_drop printable a screen printed)

  -- Row a + 1: its cells are patched in.
  abbrev row_patched : ℕ → List ℕ → List ℕ
  row_patched a s = patch (a * W) (screen_row W (suc a) screen) s

  patched-long : (a : ℕ) (s : List ℕ) → a + 1 ≤ H → length s ≡ H * W → length (row_patched a s) ≡ H * W
  patched-long a s fits size = length-patch (a * W) _ s (rw (row-long a fits) (omega (arith, room a 1 fits))) ∙ size

  row-sent : (a : ℕ) (m : Machine) → a + 1 ≤ H → length m.shows ≡ H * W → m.reading ≡ cells
      → feed H W (sent_row W screen (suc a)) m ≡ machine (row_patched a m.shows) (suc a) W
  unfolding sent_row
  row-sent a m fits size ready =
      let row : List ℕ = screen_row W (suc a) screen in
      let above : suc a - 1 ≡ a = omega arith in
      let here : (suc a - 1) * W + (1 - 1) ≡ a * W = omega (arith, ap (λ n. n * W) above) in
      let cells-long : length row ≡ W = row-long a fits in
      feed-append H W (sent_spot (suc a) 1) row m
      ∙ (ap (feed H W row) (feed-spot H W (suc a) 1 m (omega arith) (omega arith) (omega arith) wide ready)
      ∙ (feed-run H W (suc a) row m.shows 1 (omega arith) wide (omega arith) (omega (arith, room a 1 fits)) (part-printed ((suc a - 1) * W) W)
      ∙ ap₂ (λ at j. machine (patch at row m.shows) (suc a) j) here (within-most W (1 + length row) (omega arith))))

  -- n + 1 rows below row a are the first of them and the others.
  rows-patched : (a n : ℕ) (s : List ℕ) → a + suc n ≤ H → length s ≡ H * W
      → patch (suc a * W) (part (suc a * W) (n * W) screen) (row_patched a s) ≡ patch (a * W) (part (a * W) (suc n * W) screen) s
  rows-patched a n s fits size =
      let first : length (screen_row W (suc a) screen) ≡ W = row-long a (omega arith) in
      let others : length (part (suc a * W) (n * W) screen) ≡ n * W = rows_long (suc a) n (omega arith) in
      let next : suc a * W ≡ a * W + length (screen_row W (suc a) screen) = omega (arith, suc-mul a W) in
      let inside : a * W + suc n * W ≤ H * W = room a (suc n) fits in
      ap (λ at. patch at (part (suc a * W) (n * W) screen) (row_patched a s)) next
      ∙ (patch-behind (screen_row W (suc a) screen) (part (suc a * W) (n * W) screen) s (a * W) _ refl (omega (arith, suc-mul n W))
      ∙ ap (λ run. patch (a * W) run s) (sym (run-split W a n screen)))

  rows-sent : (n a : ℕ) (m : Machine) → a + n ≤ H → length m.shows ≡ H * W → m.reading ≡ cells
      → Shows (feed H W (joined (map (sent_row W screen) (counted n (suc a)))) m) (patch (a * W) (part (a * W) (n * W) screen) m.shows)
  unfolding feed joined counted part
  rows-sent zero a m fits size ready = record { bytes = rw (zero-mul, patch-none); ready = ready }
  rows-sent (suc n) a m fits size ready =
      let inside : a + 1 ≤ H = omega arith in
      let rest : List ℕ = joined (map (sent_row W screen) (counted n (suc (suc a)))) in
      let after : Machine = machine (row_patched a m.shows) (suc a) W in
      let others = rows-sent n (suc a) after (omega arith) (patched-long a m.shows inside size) refl in
      let all : feed H W (sent_row W screen (suc a) ++ rest) m ≡ feed H W rest after =
      feed-append H W (sent_row W screen (suc a)) rest m ∙ ap (feed H W rest) (row-sent a m inside size ready) in
      record {
        bytes = ap (λ t. t.shows) all ∙ (others.bytes ∙ rows-patched a n m.shows fits size);
        ready = ap (λ t. t.reading) all ∙ others.ready;
      }

  -- Rows that are patched in are repainted.
  repaint-patched : (a last : ℕ) (s : List ℕ) → suc a ≤ last → last ≤ H
      → repaint W (suc a) last screen s ≡ patch (a * W) (part (a * W) ((suc last - suc a) * W) screen) s
  unfolding repaint patch
  repaint-patched a last s ordered fits =
      let n : ℕ = suc last - suc a in
      let above : suc a - 1 ≡ a = omega arith in
      let rows : a + n ≡ last = omega arith in
      let end : last * W ≡ a * W + n * W = ap (λ k. k * W) (sym rows) ∙ add-mul a n W in
      cond-false _ _ (ne_eqb (suc a) 0 (omega arith))
      ∙ rw (above, end, ← drop-drop (n * W) (a * W) s, rows_long a n (omega arith))

  -- The named rows.
  pub feed-rows : (first last : ℕ) (m : Machine) → first ≤ last → last ≤ H → length m.shows ≡ H * W → m.reading ≡ cells
      → Shows (feed H W (sent_rows W first last screen) m) (repaint W first last screen m.shows)
  unfolding feed sent_rows repaint joined counted
  feed-rows zero last m ordered fits size ready = record { bytes = refl; ready = ready }
  feed-rows (suc a) last m ordered fits size ready =
      let rows : row_count (suc a) last ≡ suc last - suc a = cond-false _ _ (ne_eqb (suc a) 0 (omega arith)) in
      rw (rows, repaint-patched a last m.shows ordered fits) (rows-sent (suc last - suc a) a m (omega arith) size ready)
