-- Laws of the bytes for a terminal: how long they are, and the named rows one behind the other.
use mathlib.Core.Path.{◌≡◌, refl, ap, ◌∙◌}
use mathlib.Core.Logic.{◌⊎◌, inl, inr, ⊎_elim}
use mathlib.Core.List.{List, ◌++◌, map, append_assoc, append-nil}
use Prim.Native.Nat.{ℕ, zero, suc, ◌+◌, ◌-◌, ◌*◌, ◌^◌, ◌≤◌, ◌<◌}
use native.Mathlib.Nat.{add-zero, suc-mul, mul-le-mul, mul-le-mul_right}
use native.Mathlib.Numerals.{add-one}
use native.Mathlib.Omega.{arith}
use lib.Dec.{eqb}
use lib.ListN.{length, length-append}
use borrow.Rule.Slice.PartMut.{mid_of}
use borrow.Author.Tests.{eqb-true, eqb-false}
use Rattle.gap.specs.Rules.Sequence.{part, counted}
use Rattle.gap.specs.Rules.Decimal.{decimal}
use Rattle.gap.proofs.Laws.Tests.{decided, cond-true, cond-false}
use Rattle.gap.proofs.Laws.Sequence.{length_part}
use Rattle.gap.proofs.Laws.Decimals.{decimal-within, decimal-short}
use Rattle.window.specs.Rules.Window.{joined}
use Rattle.window.specs.Rules.Rows.{screen_row}
use Rattle.window.specs.Rules.Sequences.{sent_spot, sent_row, row_count, sent_rows, sent_column, sent_screen}
use Rattle.window.specs.declared.writer.Writer.{Writer}
use Rattle.window.specs.Wording.Writing.{RowsIn, filled, rows_size, sent_size}
use Rattle.window.proofs.Laws.Writer.{Filled, filled-none, room-behind, filled-more}

-- ---- A spot

-- It has four bytes beside its two numbers.
pub length-spot : (row column : ℕ) → length (sent_spot row column) ≡ 4 + length (decimal row) + length (decimal column)
unfolding sent_spot
length-spot row column = simp length-append (omega arith)

-- Machine words have at most 20 digits each, a row of a screen 2 and a column 3.
pub spot-short : (row column : ℕ) → row < 2 ^ 64 → column < 2 ^ 64 → length (sent_spot row column) ≤ 44
spot-short row column rows columns = omega (arith, length-spot row column, decimal-short row rows, decimal-short column columns)

pub row-spot-short : (i : ℕ) → i ≤ 64 → length (sent_spot i 1) ≤ 7
row-spot-short i few = omega (arith, length-spot i 1, decimal-within i 1 (omega arith), decimal-within 1 0 (omega arith))

pub cursor-spot-short : (row column : ℕ) → row ≤ 64 → column ≤ 256 → length (sent_spot row column) ≤ 9
cursor-spot-short row column rows columns =
    omega (arith, length-spot row column, decimal-within row 1 (omega arith), decimal-within column 2 (omega arith))

-- ---- A row

-- The row below so many others.
module _ (W above : ℕ) (screen : List ℕ) (inside : above * W + W ≤ length screen) where
  -- Rows count from 1, the cells of the screen from 0.
  row-cells : screen_row W (above + 1) screen ≡ part (above * W) W screen
  row-cells = let same : above + 1 - 1 ≡ above = omega arith in rw same

  row-length : length (screen_row W (above + 1) screen) ≡ W
  row-length = rw row-cells (length_part (above * W) W screen inside)

  length-sent : length (sent_row W screen (above + 1)) ≡ length (sent_spot (above + 1) 1) + W
  unfolding sent_row
  length-sent = rw (length-append, row-length)

  -- The part of the screen that is lent for it, as the checker has it.
  row-lent : mid_of (above * W) (above * W + W - above * W) screen ≡ screen_row W (above + 1) screen
  unfolding part
  row-lent = let size : above * W + W - above * W ≡ W = omega arith in rw (row-cells, size)

  -- A room for the row has room for its spot.
  pub spot-room : (at : ℕ) {room : ℕ} → at + length (sent_row W screen (above + 1)) ≤ room → at + length (sent_spot (above + 1) 1) ≤ room
  spot-room at room = omega (arith, length-sent)

  -- The spot and then the cells are the row.
  pub row-whole : sent_spot (above + 1) 1 ++ mid_of (above * W) (above * W + W - above * W) screen ≡ sent_row W screen (above + 1)
  unfolding sent_row
  row-whole = ap (λ cells. sent_spot (above + 1) 1 ++ cells) row-lent

-- ---- How many rows

-- None are named, or those from the first to the last.
count : (first last : ℕ)
    → ((first ≡ 0) × (row_count first last ≡ 0)) ⊎ ((0 < first) × (row_count first last ≡ suc last - first))
count first last =
    ⊎_elim
    (λ yes-it-is. inl (eqb-true first 0 yes-it-is, cond-true 0 (suc last - first) yes-it-is))
    (λ no-it-is. inr (let named = eqb-false first 0 no-it-is in omega arith, cond-false 0 (suc last - first) no-it-is))
    (decided (eqb first 0))

module _ (first last : ℕ) where
  pub named-most : row_count first last ≤ last
  named-most = ⊎_elim (λ none. omega arith) (λ some. omega arith) (count first last)

  pub named-row : {rows i : ℕ} → rows ≡ row_count first last → i < rows → (0 < first + i) × (first + i ≤ last)
  named-row named more = ⊎_elim (λ none. omega arith) (λ some. omega arith) (count first last)

-- Each of them is a row of the screen, with fewer than 64 above it.
module _ {W first last : ℕ} {screen : List ℕ} (within : RowsIn W first last screen) {rows i : ℕ} (named : rows ≡ row_count first last) (more : i < rows) where
  pub some_first : 1 ≤ first
  some_first = ⊎_elim (λ none. omega arith) (λ some. some.0) (count first last)

  pub row_number_lem : first - 1 + i + 1 ≡ first + i
  row_number_lem = omega (arith, some_first)

  pub row_inside : (first - 1 + i < 64) × ((first - 1 + i) * W + W ≤ length screen)
  row_inside =
      let here = named-row first last named more in
      let end : suc (first - 1 + i) * W ≤ last * W = mul-le-mul_right W (omega (arith, row_number_lem)) in
      omega (arith, within.few, within.inside, row_number_lem, suc-mul (first - 1 + i) W)

-- ---- Rows one behind the other

module _ (row : ℕ → List ℕ) where
  -- One more stands behind those before it.
  pub joined-last : (n k : ℕ) → joined (map row (counted (suc n) k)) ≡ joined (map row (counted n k)) ++ row (k + n)
  unfolding joined counted
  joined-last zero k = rw (append-nil, add-zero)
  joined-last (suc n) k =
      let further : suc k + n ≡ k + suc n = omega arith in
      rw (joined-last n (suc k), append_assoc, further)

  joined-longer : (m n k : ℕ) → m ≤ n → length (joined (map row (counted m k))) ≤ length (joined (map row (counted n k)))
  unfolding joined counted
  joined-longer zero n k few = omega arith
  joined-longer (suc m) zero k few = absurd (omega arith)
  joined-longer (suc m) (suc n) k few = rw (length-append, length-append) (omega (arith, joined-longer m n (suc k) (omega arith)))

-- n rows from row k on.
abbrev pub rows_from : ℕ → List ℕ → ℕ → ℕ → List ℕ
rows_from W screen n k = joined (map (sent_row W screen) (counted n k))

-- Of the named rows, i are written by a writer.
pub record RowsSent (W first rows : ℕ) (screen : List ℕ) (old : Writer) (i : ℕ) (new : Writer) : Type 0 where
  pub within : i ≤ rows
  pub wrote : Filled old (rows_from W screen i first) new

pub sent-none : {W first rows : ℕ} {screen : List ℕ} (t : Writer) → t.at ≤ length t.out.now → RowsSent W first rows screen t 0 t
unfolding joined counted
sent-none t within = record { within = omega arith; wrote = filled-none t within }

module _ {W first rows i : ℕ} {screen : List ℕ} {old new : Writer} (sent : RowsSent W first rows screen old i new) (more : i < rows)
    (room : old.at + length (rows_from W screen rows first) ≤ length old.out.now) where
  next-room : old.at + length (rows_from W screen i first ++ sent_row W screen (first + i)) ≤ length old.out.now
  next-room =
      let longer = joined-longer (sent_row W screen) (suc i) rows first more in
      rw (← joined-last (sent_row W screen) i first) (omega (arith, longer, room))

  pub sent-room : new.at + length (sent_row W screen (first + i)) ≤ length new.out.now
  sent-room = room-behind sent.wrote (sent_row W screen (first + i)) next-room

  pub sent-more : {newer : Writer} → newer ≡ filled new (sent_row W screen (first + i)) → RowsSent W first rows screen old (i + 1) newer
  sent-more row =
      record { within = omega arith; wrote = rw (add-one, joined-last (sent_row W screen) i first) (filled-more sent.wrote (sent_row W screen (first + i)) next-room row) }

pub sent-all : {W first rows i : ℕ} {screen : List ℕ} {old new : Writer} → RowsSent W first rows screen old i new → rows ≤ i
    → new ≡ filled old (rows_from W screen rows first)
sent-all {rows = rows} {i = i} sent done = let all : i ≡ rows = omega (arith, sent.within) in rw all at sent.wrote.same

-- ---- How long they are

-- One row more is as much longer.
size-last : (W n k : ℕ) → rows_size W (suc n) k ≡ rows_size W n k + (length (sent_spot (k + n) 1) + W)
unfolding rows_size
size-last W zero k = rw (add-zero k) (omega arith)
size-last W (suc n) k =
    let further : suc k + n ≡ k + suc n = omega arith in
    rw further at (ap (λ size. (length (sent_spot k 1) + W) + size) (size-last W n (suc k))) ∙ omega arith

-- No row's spot takes more than 7 bytes.
size-most : (W n k : ℕ) → k + n ≤ 65 → rows_size W n k ≤ n * (W + 7)
unfolding rows_size
size-most W zero k few = omega arith
size-most W (suc n) k few =
    omega (arith, row-spot-short k (omega arith), size-most W n (suc k) (omega arith), suc-mul n (W + 7))

-- What is counted without a look at the screen is how long the rows are.
length-rows : (W last n k : ℕ) (screen : List ℕ) → last * W ≤ length screen → 0 < k → k + n ≤ suc last
    → length (rows_from W screen n k) ≡ rows_size W n k
unfolding joined counted rows_size
length-rows W last zero k screen inside some few = refl
length-rows W last (suc n) zero screen inside some few = absurd (omega arith)
length-rows W last (suc n) (suc a) screen inside some few =
    let end : suc a * W ≤ last * W = mul-le-mul_right W (omega arith) in
    let row = length-sent W a screen (omega (arith, suc-mul a W)) in
    rw (length-append, rw add-one at row, length-rows W last n (suc (suc a)) screen inside (omega arith) (omega arith))

pub length-named : {W first last : ℕ} {screen : List ℕ} → RowsIn W first last screen
    → length (sent_rows W first last screen) ≡ rows_size W (row_count first last) first
unfolding sent_rows joined counted rows_size
length-named {W} {first} {last} {screen} rows =
    ⊎_elim
    (λ none. rw none.1)
    (λ some. length-rows W last (row_count first last) first screen rows.inside some.0 (omega (arith, some.1, rows.ordered)))
    (count first last)

-- The size that is counted beforehand is the length of the bytes.
pub sent-size : {W first last : ℕ} (row column : ℕ) {screen : List ℕ} → RowsIn W first last screen
    → length (sent_screen W first last row column screen) ≡ sent_size W first last row column
unfolding sent_screen sent_size
sent-size row column rows = rw (length-append, length-named rows)

-- A screen has at most 64 rows of 256 cells, so that no sum on the way to the size can wrap.
module _ (W first last : ℕ) (ordered : first ≤ last) (few : last ≤ 64) {rows : ℕ} (named : rows ≡ row_count first last) where
  pub rows-most : (n : ℕ) → n ≤ rows → rows_size W n first ≤ n * (W + 7)
  rows-most n most = size-most W n first (⊎_elim (λ none. omega arith) (λ some. omega arith) (count first last))

  pub spot-small : {i spot : ℕ} → i < rows → spot ≡ length (sent_spot (first + i) 1) → spot ≤ 7
  spot-small {i} more spot-so = omega (arith, row-spot-short (first + i) (omega (arith, named-row first last named more)))

  pub rows-small : (n : ℕ) → n ≤ rows → W ≤ 256 → rows_size W n first ≤ 16832
  rows-small n most wide =
      let bound : n * (W + 7) ≤ 64 * 263 = mul-le-mul {n₂ = 64} {m₂ = 263} (omega (arith, named-most first last)) (omega arith) in
      omega (arith, rows-most n most)

pub named_small : (W first last : ℕ) → first ≤ last → last ≤ 64 → W ≤ 256 → rows_size W (row_count first last) first ≤ 16832
named_small W first last ordered few wide = rows-small W first last ordered few refl (row_count first last) (omega arith) wide

-- What is counted in one turn.
pub size-more : (W n k : ℕ) {size spot : ℕ} → size ≡ rows_size W n k → spot ≡ length (sent_spot (k + n) 1)
    → size + (spot + W) ≡ rows_size W (n + 1) k
size-more W n k sized spot-so = rw (add-one, size-last W n k, sized, spot-so)

-- The sizes of the rows and of the cursor's spot.
pub sent-sum : (W first last row column : ℕ) {rows spot sent : ℕ} → rows ≡ rows_size W (row_count first last) first
    → spot ≡ length (sent_spot row sent) → sent ≡ sent_column W column → rows + spot ≡ sent_size W first last row column
unfolding sent_size
sent-sum W first last row column rows-so spot-so sent-so = rw (rows-so, spot-so, sent-so)
