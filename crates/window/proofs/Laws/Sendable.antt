-- What the test of sizes tells, which the routine for terminals makes first: the facts that its functions and the terminal rest on.
use mathlib.Core.Path.{◌≡◌}
use mathlib.Core.Logic.{⊎_elim}
use mathlib.Core.Bool.{true, ◌&&◌}
use mathlib.Core.List.{List}
use Prim.Native.Nat.{ℕ, ◌+◌, ◌*◌, ◌≤◌}
use native.Mathlib.Omega.{arith}
use lib.Dec.{eqb, leb, ltb}
use lib.ListN.{length}
use borrow.Author.Tests.{leb-true, eqb-true, ltb-true}
use Rattle.gap.proofs.Laws.Tests.{decided, and_left, and_right, or_cases, cond-true, cond-false}
use Rattle.window.specs.Rules.Core.{rows_and_columns}
use Rattle.window.specs.Rules.Sequences.{sent_column}
use Rattle.window.specs.Rules.Sending.{rows_on, sendable}

-- No rows are 0 and 0, which are in order too.
pub record Sendable (H W first last row column : ℕ) (screen : List ℕ) : Type 0 where
  pub few : H ≤ 64
  pub wide : 1 ≤ W
  pub narrow : W ≤ 256
  pub long : length screen ≡ H * W
  pub ordered : first ≤ last
  pub inside : last ≤ H
  pub top : 1 ≤ row
  pub bottom : row ≤ H
  pub right : column ≤ W

rows-ordered : (H first last : ℕ) → rows_on H first last ≡ true → (first ≤ last) × (last ≤ H)
rows-ordered H first last e =
    ⊎_elim
    (λ none.
    let no-first = eqb-true first 0 (and_left (eqb first 0) _ none) in
    let no_last = eqb-true last 0 (and_right (eqb first 0) _ none) in
    (omega arith, omega arith))
    (λ some.
    let others = and_right (leb 1 first) _ some in
    (leb-true first last (and_left (leb first last) _ others), leb-true last H (and_right (leb first last) _ others)))
    (or_cases (eqb first 0 && eqb last 0) _ e)

pub sendable-facts : (H W first last row column : ℕ) (screen : List ℕ) → sendable H W first last row column screen ≡ true
    → Sendable H W first last row column screen
unfolding sendable
sendable-facts H W first last row column screen e =
    let sizes = and_left (rows_and_columns H W && eqb (length screen) (H * W)) _ e in
    let others = and_right (rows_and_columns H W && eqb (length screen) (H * W)) _ e in
    let frame = and_left (rows_and_columns H W) _ sizes in
    let columns = and_right (leb 1 H && leb H 64) _ frame in
    let rows = rows-ordered H first last (and_left (rows_on H first last) _ others) in
    let cursor = and_right (rows_on H first last) _ others in
    let below = and_right (leb 1 row) _ cursor in
    record {
      few = leb-true H 64 (and_right (leb 1 H) _ (and_left (leb 1 H && leb H 64) _ frame));
      wide = leb-true 1 W (and_left (leb 1 W) _ columns);
      narrow = leb-true W 256 (and_right (leb 1 W) _ columns);
      long = eqb-true _ _ (and_right (rows_and_columns H W) _ sizes);
      ordered = rows.0;
      inside = rows.1;
      top = leb-true 1 row (and_left (leb 1 row) _ cursor);
      bottom = leb-true row H (and_left (leb row H) _ below);
      right = leb-true column W (and_right (leb row H) _ below);
    }

-- The column that is sent is one of the terminal's.
pub sent-on : (W column : ℕ) → 1 ≤ W → (1 ≤ sent_column W column) × (sent_column W column ≤ W)
sent-on W column wide =
    ⊎_elim
    (λ inside. rw (cond-true (column + 1) W inside) (omega (arith, ltb-true column W inside)))
    (λ behind. rw (cond-false (column + 1) W behind) (omega arith))
    (decided (ltb column W))
