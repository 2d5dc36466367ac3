-- Laws of what is printed: rows, how long they are, what has been written of them so far, and the block of an accepted call.
use mathlib.Core.Path.{◌≡◌, refl, sym, ap, ◌∙◌}
use mathlib.Core.Bool.{Bool, true, false}
use mathlib.Core.List.{List, [], ◌∷◌, ◌++◌, append_assoc}
use Prim.Native.Nat.{ℕ, zero, suc, ◌+◌, ◌*◌, ◌≤◌, ◌<◌}
use native.Mathlib.Nat.{zero-mul, suc-mul, mul-le-mul, le_refl}
use native.Mathlib.Numerals.{add-one}
use native.Mathlib.Omega.{arith}
use lib.ListN.{length, take, drop, get_or, length-append, length-drop}
use lib.Seq.{length-take-le, take-length, take-take, drop-drop}
use Rattle.gap.specs.Rules.Sequence.{part}
use Rattle.gap.specs.Rules.Strings.{bytes}
use Rattle.gap.specs.Rules.Lines.{newline}
use Rattle.std.specs.Int.{from_bool}
use Rattle.gap.specs.Rules.Numbers.{bit}
use Rattle.gap.specs.Rules.Fields.{entry}
use Rattle.gap.specs.Wording.Written.{Wrote}
use Rattle.std.proofs.Common.{Bor}
use Rattle.std.proofs.lemmas.List.{take_more, flat_map_more}
use Rattle.std.proofs.lemmas.List.Sums.{sum_by-drop_more}
use Rattle.bench.specs.Wording.Entries.{entries_of, room_of}
use Rattle.gap.proofs.Laws.Writers.{wrote_none, then, wrote-length}
use Rattle.window.proofs.Laws.Paint.{row_fits}
use Rattle.window.specs.declared.Rows.{Rows}
use Rattle.window.specs.Rules.Core.{Answer}
use Rattle.bench.specs.Rules.Print.{rows_of, accepted_block}
use Rattle.bench.specs.Wording.Turns.{Printable}

-- A word, cells and a newline, one behind the other, are a row.
pub row_wrote : {at cells_at end next : ℕ} {cells old s t new : List ℕ} → Wrote at (bytes "line=") old cells_at s
    → Wrote cells_at cells s end t → Wrote end (newline ∷ []) t next new → Wrote at (rows_of 1 (length cells) cells) old next new
unfolding rows_of
row_wrote word-is cells_are end_is = rw take-length (then word-is (then cells_are end_is))

-- One row more stands behind the rows before it.
rows_last : (i w : ℕ) (s : List ℕ) → rows_of (suc i) w s ≡ rows_of i w s ++ rows_of 1 w (part (i * w) w s)
unfolding rows_of part
rows_last zero w s = rw (zero-mul, take-take w w s (le_refl w))
rows_last (suc i) w s =
    let place : w + i * w ≡ suc i * w = omega (arith, suc-mul i w) in
    let rest : drop (i * w) (drop w s) ≡ drop (suc i * w) s = drop-drop (i * w) w s ∙ ap (λ n. drop n s) place in
    ap (λ t. bytes "line=" ++ (take w s ++ (newline ∷ t)))
    (rows_last i w (drop w s) ∙ ap (λ t. rows_of i w (drop w s) ++ rows_of 1 w (take w t)) rest)
    ∙ sym (simp append_assoc)

length-rows : (h w : ℕ) (s : List ℕ) → h * w ≤ length s → length (rows_of h w s) ≡ h * (w + 6)
unfolding rows_of bytes
length-rows zero w s fits = sym (zero-mul (w + 6))
length-rows (suc h) w s fits =
    let cells : length (take w s) ≡ w = length-take-le w s (omega (arith, suc-mul h w)) in
    let rest : h * w ≤ length (drop w s) = rw length-drop (omega (arith, suc-mul h w)) in
    simp (length-append, cells, length-rows h w (drop w s) rest) (omega (arith, suc-mul h (w + 6)))

-- The largest screen takes 64 rows of 256 cells, each with its word and its newline.
pub rows-room : {h w room : ℕ} (next : ℕ) (s : List ℕ) → Printable h w s → next + 16768 ≤ room
    → next + length (rows_of h w s) ≤ room
rows-room {h} {w} next s sizes fits =
    let most : h * (w + 6) ≤ 16768 = mul-le-mul {m₂ = 262} sizes.rows (omega (arith, sizes.columns)) in
    omega (arith, length-rows h w s (omega (arith, sizes.long)))

-- Of the h rows of a screen, i are written into a store that was `old` and now is `new`; the cells of the others are left, and the next
-- row goes to `next`.
pub record Shown (h w : ℕ) (screen old : List ℕ) (at i : ℕ) (rest : List ℕ) (next : ℕ) (new : List ℕ) : Type 0 where
  pub long : length screen ≡ h * w
  pub within : i ≤ h
  pub left : rest ≡ drop (i * w) screen
  pub room : at + h * (w + 6) ≤ length old
  pub wrote : Wrote at (rows_of i w screen) old next new

pub shown-none : (h w at : ℕ) (screen old : List ℕ) → length screen ≡ h * w → at + length (rows_of h w screen) ≤ length old
    → Shown h w screen old at 0 screen at old
unfolding rows_of
shown-none h w at screen old long fits = record {
  long = long;
  within = omega arith;
  left = rw zero-mul refl;
  room = omega (arith, length-rows h w screen (omega arith));
  wrote = wrote_none at old (omega arith);
}

module _ {h w at i next : ℕ} {screen old rest new : List ℕ} (shown : Shown h w screen old at i rest next new) (more : i < h) where
  row_inside : w ≤ length rest
  row_inside = rw (shown.left, length-drop) (omega (arith, shown.long, row_fits i h w more))

  module _ {row : List ℕ} (first : row ≡ take w rest) where
    as_long : length row ≡ w
    as_long = ap length first ∙ length-take-le w rest row_inside

    pub row_room : next + (length row + 6) ≤ length new
    row_room =
        let before : length (rows_of i w screen) ≡ i * (w + 6) = length-rows i w screen (omega (arith, shown.long, row_fits i h w more)) in
        omega (arith, as_long, shown.wrote.place, shown.room, wrote-length shown.wrote, row_fits i h (w + 6) more)

    pub shown-more : {below : List ℕ} {after : ℕ} {newer : List ℕ} → below ≡ drop w rest
        → Wrote next (rows_of 1 (length row) row) new after newer
        → Shown h w screen old at (i + 1) below after newer
    unfolding part
    shown-more behind written =
        let place : i * w + w ≡ suc i * w = omega (arith, suc-mul i w) in
        let cells : row ≡ part (i * w) w screen = first ∙ ap (take w) shown.left in record {
          long = shown.long;
          within = omega arith;
          left = behind ∙ ap (drop w) shown.left ∙ drop-drop w (i * w) screen ∙ rw (add-one, place) refl;
          room = shown.room;
          wrote = rw (add-one, rows_last i w screen) (then shown.wrote (rw (as_long, cells) at written));
        }

-- Entries are written one behind the other: before entry i, those before it are, and there is room for the rest.
pub record Entered (entries : List (Bor (List ℕ) × ℕ)) (old : List ℕ) (at i next : ℕ) (new : List ℕ) : Type 0 where
  pub wrote : Wrote at (entries_of (take i entries)) old next new
  pub bound : next + room_of (drop i entries) ≤ at + room_of entries

pub entered-none : (entries : List (Bor (List ℕ) × ℕ)) (old : List ℕ) (at : ℕ) → at + room_of entries ≤ length old → Entered entries old at 0 at old
entered-none entries old at room = record { wrote = wrote_none at old (omega arith); bound = omega arith }

pub entered-more : {entries : List (Bor (List ℕ) × ℕ)} {old new newer : List ℕ} {at i next after : ℕ} (none : Bor (List ℕ) × ℕ)
    → Entered entries old at i next new → i < length entries → let e = get_or entries i none in
    Wrote next (entry e.0.now e.1) new after newer → after ≤ next + (length e.0.now + 21) → Entered entries old at (i + 1) after newer
entered-more {entries} {i = i} none so_far more written bounded =
    let one : entries_of (take (i + 1) entries) ≡ entries_of (take i entries) ++ entry (get_or entries i none).0.now (get_or entries i none).1 =
    ap entries_of (take_more entries i none more) ∙ sym (flat_map_more (λ e. entry e.0.now e.1) [] (take i entries) (get_or entries i none)) in
    record {
      wrote = rw one (then so_far.wrote written);
      bound = omega (arith, sum_by-drop_more (λ e. length e.0.now + 21) entries i none more, so_far.bound);
    }

-- A flag as a number, as code makes it.
as_bit : (b : Bool) → from_bool b ≡ bit b
as_bit true = refl
as_bit false = refl

-- The block of an accepted call: its entries, and the rows behind them.
pub accepted-wrote : (h w : ℕ) (a : Answer) (screen : List ℕ) {bell rows_at next : ℕ} {named : Rows} {old mid new : List ℕ}
    → bell ≡ from_bool a.report.bell → named ≡ record { first = a.first; last = a.last }
    → Wrote 0 (entry (bytes "code=") 0
    ++ (entry (bytes "steps=") a.report.steps
    ++ (entry (bytes "lines=") a.report.lines
    ++ (entry (bytes "bell=") bell
    ++ (entry (bytes "first=") named.first
    ++ (entry (bytes "last=") named.last
    ++ (entry (bytes "row=") a.row ++ (entry (bytes "col=") a.column ++ [])))))))) old rows_at mid
    → Wrote rows_at (rows_of h w screen) mid next new
    → Wrote 0 (accepted_block h w a screen) old next new
unfolding accepted_block
accepted-wrote h w a screen {named = named} rings names entries_are rows_are =
    let first : named.first ≡ a.first = ap (λ r. r.first) names in
    let last : named.last ≡ a.last = ap (λ r. r.last) names in
    rw (← as_bit a.report.bell, ← rings, ← first, ← last) (simp append_assoc at (then entries_are rows_are))
