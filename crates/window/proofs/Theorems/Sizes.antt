-- SIZE exactly when a store length, H or W is not as document 01's table has it.
use mathlib.Core.Path.{◌≡◌}
use mathlib.Core.Logic.{◌↔◌}
use mathlib.Core.Bool.{true, ◌&&◌}
use Prim.Native.Nat.{ℕ, ◌*◌, ◌≤◌}
use lib.Dec.{leb}
use lib.ListN.{length}
use borrow.Author.Tests.{leb-true, le-leb, eqb-true, eq-eqb}
use Rattle.gap.proofs.Laws.Tests.{and_left, and_right, and_both}
use Rattle.editor.specs.Rules.Bytes.{quarter, sized}
use Rattle.editor.proofs.Laws.Session.{measured, measured-sized}
use Rattle.window.specs.Rules.Core.{Lent, rows_and_columns, tabled}

-- 01, table of stores. 02, M-101: the store of the held text; M-109: the side store of 4,096.
pub record AsTabled (H W : ℕ) (b : Lent) : Type 0 where
  pub text-from : 1 ≤ length b.stores.text
  pub text-to : length b.stores.text ≤ 65536
  pub recall : length b.stores.recall ≡ length b.stores.text
  pub held : length b.stores.held ≡ length b.stores.text
  pub side : length b.stores.side ≡ 4096
  pub rows-from : 1 ≤ H
  pub rows-to : H ≤ 64
  pub columns-from : 1 ≤ W
  pub columns-to : W ≤ 256
  pub screen : length b.screen ≡ H * W

pub tabled-exactly : (H W : ℕ) (b : Lent) → (tabled H W b ≡ true) ↔ AsTabled H W b
unfolding tabled quarter
tabled-exactly H W b = (
  λ e.
      let stores = measured 1024 b.stores (and_left (sized 1024 b.stores) _ e) in
      let others = and_right (sized 1024 b.stores) _ e in
      let frame = and_left (rows_and_columns H W) _ others in
      let rows = and_left (leb 1 H && leb H 64) _ frame in
      let columns = and_right (leb 1 H && leb H 64) _ frame in
      record {
        text-from = stores.low;
        text-to = stores.high;
        recall = stores.recall;
        held = stores.held;
        side = stores.side;
        rows-from = leb-true 1 H (and_left (leb 1 H) _ rows);
        rows-to = leb-true H 64 (and_right (leb 1 H) _ rows);
        columns-from = leb-true 1 W (and_left (leb 1 W) _ columns);
        columns-to = leb-true W 256 (and_right (leb 1 W) _ columns);
        screen = eqb-true _ _ (and_right (rows_and_columns H W) _ others);
      },
  λ t.
      and_both
      (measured-sized 1024 b.stores (record { low = t.text-from; high = t.text-to; recall = t.recall; held = t.held; side = t.side }))
      (and_both
      (and_both
      (and_both (le-leb 1 H t.rows-from) (le-leb H 64 t.rows-to))
      (and_both (le-leb 1 W t.columns-from) (le-leb W 256 t.columns-to)))
      (eq-eqb _ _ t.screen)),
)
