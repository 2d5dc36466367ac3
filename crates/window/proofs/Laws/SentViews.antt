-- A good view can always be sent: its cursor is on the screen, its named rows are in order, and its bytes are printed.
use mathlib.Core.Path.{◌≡◌, refl}
use mathlib.Core.Bool.{Bool, true, ◌&&◌}
use mathlib.Core.List.{List}
use Prim.Native.Nat.{ℕ, ◌-◌, ◌≤◌}
use native.Mathlib.Omega.{arith}
use lib.Dec.{eqb}
use borrow.Author.Tests.{le-leb, eq-eqb}
use Rattle.gap.specs.Rules.Doc.{Doc}
use Rattle.gap.proofs.Laws.Tests.{and_both, or_right}
use Rattle.window.specs.Words.{Frame}
use Rattle.window.specs.Rules.Window.{virtual, row_of, column_of, visible}
use Rattle.window.specs.Rules.Rows.{changed, first_row, last_row}
use Rattle.window.specs.Rules.Terminal.{View, picture, Good}
use Rattle.window.specs.Rules.Sending.{rows_on, cursor_on, sendable}
use Rattle.window.proofs.Laws.Window.{length-window, visible-says}
use Rattle.window.proofs.Laws.Rows.{Named, nothing, run, named}

-- A cursor that is visible is on the screen.
cursor-on : (f : Frame) (d : Doc) → visible f d ≡ true → cursor_on f.h f.w (row_of d - f.r) (column_of d - f.c) ≡ true
cursor-on f d seen =
    let at = visible-says f d seen in
    and_both (le-leb 1 (row_of d - f.r) (omega (arith, at)))
    (and_both (le-leb (row_of d - f.r) f.h (omega (arith, at))) (le-leb (column_of d - f.c) f.w (omega (arith, at))))

-- Rows in order, and none.
rows_on_lem : (H first last : ℕ) → 1 ≤ first → first ≤ last → last ≤ H → rows_on H first last ≡ true
rows_on_lem H first last low ordered high =
    or_right (eqb first 0 && eqb last 0) (and_both (le-leb 1 first low) (and_both (le-leb first last ordered) (le-leb last H high)))

named-on : (test : ℕ → Bool) (H first last : ℕ) → Named test H first last → rows_on H first last ≡ true
named-on test H _ _ (nothing none) = refl
named-on test H _ _ (run {first} {last} ends) = rows_on_lem H first last ends.low ends.ordered ends.high

pub changed-on : (H W : ℕ) (old new : List ℕ) → rows_on H (first_row H W old new) (last_row H W old new) ≡ true
changed-on H W old new = named-on (changed W old new) H _ _ (named H W old new)

pub every-on : (H : ℕ) → 1 ≤ H → rows_on H 1 H ≡ true
every-on H some = rows_on_lem H 1 H (omega arith) some (omega arith)

-- Where the cursor of a view is on the screen.
abbrev pub cursor_row : View → ℕ
cursor_row v = row_of (virtual v.plain) - v.frame.r

abbrev pub cursor_column : View → ℕ
cursor_column v = column_of (virtual v.plain) - v.frame.c

pub view-sendable : (size : ℕ) (v : View) → Good size v → (first last : ℕ) → rows_on v.frame.h first last ≡ true
    → sendable v.frame.h v.frame.w first last (cursor_row v) (cursor_column v) (picture v) ≡ true
unfolding sendable
view-sendable size v good first last rows =
    and_both (and_both good.tabled (eq-eqb _ _ (length-window v.frame (virtual v.plain))))
    (and_both rows (cursor-on v.frame (virtual v.plain) good.seen))
