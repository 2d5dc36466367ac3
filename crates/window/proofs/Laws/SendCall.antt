-- The call that writes bytes for a terminal: what its tests refuse, and what it writes.
use Rattle.std.proofs.Common.{Option, Some, None}
use mathlib.Core.Path.{◌≡◌, refl, sym, ap, ◌∙◌}
use mathlib.Core.Bool.{Bool, true, false, not}
use mathlib.Core.List.{List, ◌++◌}
use Prim.Native.Nat.{ℕ, ◌+◌, ◌*◌, ◌≤◌, ◌<◌}
use native.Mathlib.Nat.{mul-le-mul_right}
use native.Mathlib.Omega.{arith}
use lib.ListN.{length}
use borrow.Author.Tests.{le-leb, lt-leb, not-true, not-false}
use Rattle.gap.specs.Rules.Sequence.{patch}
use Rattle.gap.specs.Wording.Written.{Wrote}
use Rattle.gap.proofs.Laws.Tests.{cond-true, cond-false}
use Rattle.editor.specs.Rules.Refusals.{SIZE, TEXT, ROOM}
use Rattle.window.specs.declared.Sending.{Sending}
use Rattle.window.specs.Rules.Sequences.{sent_spot, row_count, sent_rows, sent_column, sent_screen}
use Rattle.window.specs.Rules.Sending.{SendOutcome, sendable, bad_cell, sent_into, unless_bad_cell, sending}
use Rattle.window.specs.Wording.Writing.{RowsIn, sent_size, outcome_of}
use Rattle.window.proofs.Laws.Sendable.{Sendable, sendable-facts, sent-on}
use Rattle.window.proofs.Laws.Sequences.{cursor-spot-short, named-most, rows-most, sent-size}

-- ---- SIZE

module _ (H W first last row column : ℕ) (screen : List ℕ) (e : sendable H W first last row column screen ≡ true) where
  abbrev facts : Sendable H W first last row column screen
  facts = sendable-facts H W first last row column screen e

  -- What the functions that count and write ask of the rows.
  pub rows_in : RowsIn W first last screen
  rows_in =
      record {
        ordered = facts.ordered;
        few = omega (arith, facts.inside, facts.few);
        wide = facts.narrow;
        inside = omega (arith, facts.long, mul-le-mul_right W facts.inside);
      }

  -- A buffer that is always large enough: for a row its W cells and 7 bytes for its spot, and 9 for the cursor's.
  pub enough-room : length (sent_screen W first last row column screen) ≤ H * (W + 7) + 9
  unfolding sent_size
  enough-room =
      let told = facts in
      let few : row_count first last ≤ H = omega (arith, named-most first last) in
      let rows = rows-most W first last told.ordered (omega arith) refl (row_count first last) (omega arith) in
      let spot = cursor-spot-short row (sent_column W column) (omega arith) (omega (arith, sent-on W column told.wide)) in
      omega (arith, sent-size row column rows_in, mul-le-mul_right (W + 7) few)

-- ---- ROOM

-- The size is counted before a byte is written, and decides.
module _ (W first last row column : ℕ) (screen buffer : List ℕ) (rows : RowsIn W first last screen)
    {size : ℕ} (sized : size ≡ sent_size W first last row column) where
  abbrev run : List ℕ
  run = sent_screen W first last row column screen

  counted-so : size ≡ length run
  counted-so = sized ∙ sym (sent-size row column rows)

  pub room-refused : {a : Sending} → length buffer < size → a ≡ record { code = ROOM; place = 0; count = 0 }
      → outcome_of a buffer ≡ sent_into run buffer
  room-refused over e =
      ap (λ b. outcome_of b buffer) e ∙ sym (cond-false _ _ (lt-leb (length run) (length buffer) (omega (arith, counted-so))))

  module _ (fits : size ≤ length buffer) {sent : ℕ} (column-so : sent ≡ sent_column W column) where
    same-run : run ≡ sent_rows W first last screen ++ sent_spot row sent
    unfolding sent_screen
    same-run = rw column-so

    pub room-enough : length (sent_rows W first last screen ++ sent_spot row sent) ≤ length buffer
    room-enough = rw same-run at (rw counted-so at fits)

    pub all-written : {count : ℕ} {new : List ℕ} → Wrote 0 (sent_rows W first last screen ++ sent_spot row sent) buffer count new
        → outcome_of (record { code = 0; place = 0; count = count }) new ≡ sent_into run buffer
    all-written {count} {new} wrote =
        let counts : count ≡ length run = wrote.place ∙ omega (arith, ap length same-run) in
        let bytes : new ≡ patch 0 run buffer = rw same-run wrote.bytes in
        (λ i. record { code = 0; place = 0; count = counts i; buffer = bytes i })
        ∙ sym (cond-true _ _ (le-leb (length run) (length buffer) (omega (arith, counted-so))))

-- ---- The tests in their order

-- Sizes that pass the test let the rows be written.
pub rows_pass : (H W first last row column : ℕ) (screen : List ℕ) {ok : Bool} → ok ≡ sendable H W first last row column screen
    → not ok ≡ false → RowsIn W first last screen
rows_pass H W first last row column screen known passed =
    rows_in H W first last row column screen (sym known ∙ not-false _ passed)

module _ (H W first last row column : ℕ) (screen buffer : List ℕ) {ok : Bool} (known : ok ≡ sendable H W first last row column screen) where
  pub size-refused : {a : Sending} → not ok ≡ true → a ≡ record { code = SIZE; place = 0; count = 0 }
      → outcome_of a buffer ≡ sending H W first last row column screen buffer
  unfolding sending
  size-refused bad e = ap (λ b. outcome_of b buffer) e ∙ sym (cond-false _ _ (sym known ∙ not-true _ bad))

  -- What follows on the search for a byte that is not printed.
  abbrev after : Option ℕ → SendOutcome
  after s = unless_bad_cell s buffer (sent_into (sent_screen W first last row column screen) buffer)

  module _ (passed : not ok ≡ false) {found : Option ℕ} (search : found ≡ bad_cell screen) where
    cells-decide : sending H W first last row column screen buffer ≡ after found
    unfolding sending
    cells-decide = cond-true _ _ (sym known ∙ not-false _ passed) ∙ ap after (sym search)

    pub text-refused : {a : Sending} (i : ℕ) → found ≡ Some i → a ≡ record { code = TEXT; place = i; count = 0 }
        → outcome_of a buffer ≡ sending H W first last row column screen buffer
    text-refused i there e = ap (λ b. outcome_of b buffer) e ∙ sym (cells-decide ∙ ap after there)

    pub cells-printed : found ≡ None
        → sent_into (sent_screen W first last row column screen) buffer ≡ sending H W first last row column screen buffer
    cells-printed none = sym (cells-decide ∙ ap after none)
