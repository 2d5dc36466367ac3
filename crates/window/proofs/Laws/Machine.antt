-- Laws of the terminal machine: runs of bytes one behind the other, a spot, and a run of cells.
use mathlib.Core.Path.{◌≡◌, refl, sym, ap, ap₂, ◌∙◌}
use mathlib.Core.Bool.{true, false, cond}
use mathlib.Core.List.{List, [], ◌∷◌, ◌++◌}
use Prim.Native.Nat.{ℕ, suc, ◌+◌, ◌-◌, ◌*◌, ◌/◌, ◌%◌, ◌≤◌, ◌<◌}
use native.Mathlib.Omega.{arith}
use lib.Dec.{eqb, leb, ltb}
use lib.ListN.{length, set, length-set}
use borrow.Author.Tests.{leb-true, lt-ltb, le-leb, lt-leb, ne_eqb}
use Rattle.gap.specs.Rules.Sequence.{every, patch}
use Rattle.gap.specs.Rules.Decimal.{worth, decimal}
use Rattle.gap.specs.Rules.Layout.{printable}
use Rattle.gap.proofs.Laws.Tests.{and_left, and_right, and_both, cond-true, cond-false}
use Rattle.gap.proofs.Laws.Decimals.{by-tenths, decimal_digit, decimal_step}
use Rattle.gap.proofs.Laws.Runs.{patch-none, patch-one}
use Rattle.gap.proofs.Laws.Patches.{patch-behind}
use Rattle.window.specs.Rules.Sequences.{sent_spot}
use Rattle.window.specs.Rules.Machine.{Reading, cells, row_number, column_number, Machine, machine, reads, cell_shown, goes, digit_more, step, feed}

-- The column behind a run of cells: the one that it comes to, or the last.
abbrev pub within : ℕ → ℕ → ℕ
within W n = cond (leb n W) n W

within_same : (W n : ℕ) → n ≤ W → within W n ≡ n
within_same W n inside = cond-true _ _ (le-leb n W inside)

pub within-most : (W n : ℕ) → W < n → within W n ≡ W
within-most W n behind = cond-false _ _ (lt-leb n W behind)

module _ (H W : ℕ) where
  pub feed-append : (xs ys : List ℕ) (m : Machine) → feed H W (xs ++ ys) m ≡ feed H W ys (feed H W xs m)
  unfolding feed
  feed-append [] ys m = refl
  feed-append (b ∷ xs) ys m = feed-append xs ys (step H W m.reading b m)

  -- A number from 1 on is read digit by digit, where a digit more is read as one: for the row and for the column.
  module _ (m : Machine) (at : ℕ → Reading)
      (more : (n b : ℕ) → digit_more n b ≡ true → step H W (at n) b (reads m (at n)) ≡ reads m (at (n * 10 + worth b))) where
    digit-read : (n last : ℕ) → last < 10 → 0 < n * 10 + last → feed H W ((48 + last) ∷ []) (reads m (at n)) ≡ reads m (at (n * 10 + last))
    unfolding feed
    digit-read n last small some =
        let same : worth (48 + last) ≡ last = omega arith in
        let is_digit = and_both (le-leb 48 (48 + last) (omega arith)) (le-leb (48 + last) 57 (omega arith)) in
        more n (48 + last) (and_both is_digit (lt-ltb 0 (n * 10 + worth (48 + last)) (omega arith))) ∙ ap (λ k. reads m (at (n * 10 + k))) same

    number_read : (n : ℕ) → 0 < n → feed H W (decimal n) (reads m (at 0)) ≡ reads m (at n)
    number_read =
        by-tenths (λ n. 0 < n → feed H W (decimal n) (reads m (at 0)) ≡ reads m (at n))
        (λ n small some.
        let alone : 0 * 10 + n ≡ n = omega arith in
        rw (decimal_digit n small) (digit-read 0 n small (omega arith) ∙ ap (λ k. reads m (at k)) alone))
        (λ n large tenth some.
        let whole : n / 10 * 10 + n % 10 ≡ n = omega arith in
        rw (decimal_step n large, feed-append, tenth (omega arith)) (digit-read (n / 10) (n % 10) (omega arith) (omega arith) ∙ ap (λ k. reads m (at k)) whole))

  row_read : (n : ℕ) (m : Machine) → 0 < n → feed H W (decimal n) (reads m (row_number 0)) ≡ reads m (row_number n)
  unfolding step
  row_read n m some = number_read m row_number (λ k b more. ap (reads m) (cond-true _ _ more)) n some

  column-read : (row n : ℕ) (m : Machine) → 0 < n → feed H W (decimal n) (reads m (column_number row 0)) ≡ reads m (column_number row n)
  unfolding step
  column-read row n m some = number_read m (column_number row) (λ k b more. cond-true _ _ more) n some

  -- A spot that is sent: the machine goes there, if it can.
  feed-sent-spot : (row column : ℕ) (m : Machine) → 0 < row → 0 < column → m.reading ≡ cells → feed H W (sent_spot row column) m ≡ goes H W row column m
  unfolding feed step sent_spot
  feed-sent-spot row column m top left ready =
      let rest : List ℕ = 59 ∷ (decimal column ++ (72 ∷ [])) in
      ap (λ r. feed H W (sent_spot row column) (reads m r)) ready
      ∙ (feed-append (decimal row) rest (reads m (row_number 0))
      ∙ (ap (feed H W rest) (row_read row m top)
      ∙ (feed-append (decimal column) (72 ∷ []) (reads m (column_number row 0))
      ∙ ap (feed H W (72 ∷ [])) (column-read row column m left))))

  -- A spot that is on the screen.
  pub feed-spot : (row column : ℕ) (m : Machine) → 1 ≤ row → row ≤ H → 1 ≤ column → column ≤ W → m.reading ≡ cells
      → feed H W (sent_spot row column) m ≡ machine m.shows row column
  feed-spot row column m top bottom left right ready =
      feed-sent-spot row column m top left ready
      ∙ cond-true _ _ (and_both (and_both (le-leb 1 row top) (le-leb row H bottom)) (and_both (le-leb 1 column left) (le-leb column W right)))

-- A byte that is printed, where cells are read.
not-escape : (b : ℕ) → printable b ≡ true → eqb b 27 ≡ false
not-escape b p = ne_eqb b 27 (λ e. omega (arith, leb-true 32 b (and_left (leb 32 b) _ p)))

-- The column behind a cell, as the machine has it.
next-column : (W column : ℕ) → cond (ltb column W) (suc column) W ≡ within W (column + 1)
next-column W column = let same : suc column ≡ column + 1 = omega arith in ap (λ n. cond (leb n W) n W) same

module _ (H W row : ℕ) where
  feed-cell : (b : ℕ) (run s : List ℕ) (column : ℕ) → printable b ≡ true
      → feed H W (b ∷ run) (machine s row column) ≡ feed H W run (cell_shown W b (machine s row column))
  unfolding feed step
  feed-cell b run s column p = ap (feed H W run) (cond-false _ _ (not-escape b p) ∙ cond-true _ _ p)

  -- Which of the cells is shown in a column of the row, from 0.
  abbrev cell_index : ℕ → ℕ
  cell_index column = (row - 1) * W + (column - 1)

  -- A run of cells from a column on, no longer than the row: it is patched in, and the column is the next, or the last.
  pub feed-run : (run s : List ℕ) (column : ℕ) → 1 ≤ column → column ≤ W → column + length run ≤ W + 1
      → cell_index column + length run ≤ length s → every printable run ≡ true
      → feed H W run (machine s row column) ≡ machine (patch (cell_index column) run s) row (within W (column + length run))
  unfolding feed every
  feed-run [] s column left right short fits p =
      let same : column ≡ column + 0 = omega arith in
      ap₂ (λ t j. machine t row j) (sym (patch-none s (cell_index column))) (sym (within_same W column right) ∙ ap (within W) same)
  feed-run (b ∷ []) s column left right short fits p =
      feed-cell b [] s column (and_left (printable b) _ p)
      ∙ ap₂ (λ t j. machine t row j) (patch-one s (cell_index column) b (omega arith)) (next-column W column)
  feed-run (b ∷ (c ∷ run)) s column left right short fits p =
      let inside : column < W = omega arith in
      let further : cell_index (suc column) ≡ cell_index column + 1 = omega arith in
      let end : suc column + length (c ∷ run) ≡ column + length (b ∷ (c ∷ run)) = omega arith in
      feed-cell b (c ∷ run) s column (and_left (printable b) _ p)
      ∙ (ap (λ j. feed H W (c ∷ run) (machine (set s (cell_index column) b) row j)) (cond-true _ _ (lt-ltb column W inside))
      ∙ (feed-run (c ∷ run) (set s (cell_index column) b) (suc column) (omega arith) inside (omega arith) (rw length-set (omega arith))
      (and_right (printable b) _ p)
      ∙ ap₂ (λ t j. machine t row j)
      (ap₂ (λ a t. patch a (c ∷ run) t) further (patch-one s (cell_index column) b (omega arith))
      ∙ patch-behind (b ∷ []) (c ∷ run) s (cell_index column) 1 refl (omega arith))
      (ap (within W) end)))
