-- Lines around a change at the cursor of a gap store, as the code looks at them: what stands before the cursor, what goes in, and what stands behind.
use mathlib.Core.Path.{◌≡◌, sym, ap, ◌∙◌}
use mathlib.Core.Logic.{◌↔◌}
use mathlib.Core.Bool.{Bool, true, false}
use mathlib.Core.List.{◌∷◌, ◌++◌, append_assoc, append-nil}
use Prim.Native.Nat.{ℕ, ◌+◌, ◌-◌, ◌≤◌, ◌<◌}
use native.Mathlib.Omega.{arith}
use borrow.Author.Tests.{leb-true, leb-false, le-leb, lt-leb, eq-eqb, ne_eqb}
use lib.Dec.{leb}
use lib.ListN.{length}
use Rattle.gap.specs.Rules.Doc.{Doc, content, delete, times, splice}
use Rattle.gap.specs.Rules.Lines.{newline, since}
use Rattle.gap.specs.Rules.Fields.{line_of}
use Rattle.gap.specs.Rules.Indents.{spaces}
use Rattle.gap.specs.Rules.LineLimits.{lines_fit}
use Rattle.gap.proofs.Laws.Tests.{cond-true, cond-false}
use Rattle.gap.proofs.Laws.Doc.{insertions, deletions-left, deletions-right}
use Rattle.gap.proofs.Laws.LineLimits.{fit-left, fit-right, fit-take, fit-drop, spaced_at, fit-joined, fit-spaced}
use Rattle.editor.specs.Words.{Direction, Left, Right}
use Rattle.editor.specs.Rules.Indents.{leftward}
use Rattle.editor.specs.Wording.Promise.{HalvesFit}

module _ (limit : ℕ) (d : Doc) where
  -- A text that has no longer line has none in either half.
  pub halves-fit : lines_fit limit (content d) ≡ true → HalvesFit limit d
  halves-fit fits = record { before = fit-left limit d.l d.r fits; behind = fit-right limit d.l d.r fits }

  -- Nothing goes in.
  pub joined-fits : HalvesFit limit d → {ok : Bool} {at : ℕ} → at ≡ since d.l → ok ≡ leb (at + length (line_of d.r)) limit
      → ok ≡ lines_fit limit (content d)
  joined-fits halves counted looked = looked ∙ (rw counted (sym (fit-joined limit d.l d.r halves.before halves.behind)))

  -- A byte and spaces behind it.
  module _ (b k : ℕ) (fits : lines_fit limit (content d) ≡ true) where
    spaced-fits : leb (spaced_at b k (since d.l) + length (line_of d.r)) limit
        ≡ lines_fit limit (content (splice 0 0 (leftward (b ∷ spaces k)) d))
    spaced-fits =
        sym (fit-spaced limit b k d.l d.r fits)
        ∙ ap (λ e. lines_fit limit (content e)) (sym (insertions (leftward (b ∷ spaces k)) d))

    pub newline-fits : b ≡ newline → {ok : Bool} → ok ≡ leb (k + length (line_of d.r)) limit
        → ok ≡ lines_fit limit (content (splice 0 0 (leftward (b ∷ spaces k)) d))
    newline-fits is looked =
        looked ∙ (ap (λ at. leb (at + length (line_of d.r)) limit) (sym (cond-true _ _ (eq-eqb b newline is))) ∙ spaced-fits)

    pub other_fits : ¬ (b ≡ newline) → {ok : Bool} {at : ℕ} → at ≡ since d.l → ok ≡ leb (at + 1 + k + length (line_of d.r)) limit
        → ok ≡ lines_fit limit (content (splice 0 0 (leftward (b ∷ spaces k)) d))
    other_fits other counted looked =
        looked
        ∙ (ap (λ n. leb (n + 1 + k + length (line_of d.r)) limit) counted
        ∙ (ap (λ at. leb (at + length (line_of d.r)) limit) (sym (cond-false _ _ (ne_eqb b newline other))) ∙ spaced-fits))

  -- A pair.
  pub pair_fits : (pair : Doc) {ok : Bool} → ok ≡ lines_fit limit (d.l ++ (pair.l ++ (pair.r ++ d.r)))
      → ok ≡ lines_fit limit (content (splice 0 0 pair d))
  pair_fits pair looked = looked ∙ ap (lines_fit limit) (rw (insertions, append_assoc))

-- A byte that is no newline, with k spaces behind it, makes its line so much longer.
pub spaced-lines : (limit b k : ℕ) (d : Doc) → lines_fit limit (content d) ≡ true → ¬ (b ≡ newline)
    → lines_fit limit (content (splice 0 0 (leftward (b ∷ spaces k)) d)) ≡ leb (since d.l + (1 + k) + length (line_of d.r)) limit
spaced-lines limit b k d fits other =
    let sum : since d.l + 1 + k ≡ since d.l + (1 + k) = omega arith in
    ap (λ e. lines_fit limit (content e)) (insertions (leftward (b ∷ spaces k)) d)
    ∙ (fit-spaced limit b k d.l d.r fits
    ∙ ap (λ at. leb (at + length (line_of d.r)) limit) (cond-false _ _ (ne_eqb b newline other) ∙ sum))

-- A line that is broken, with no more spaces in front of its rest than stood there, becomes no longer.
pub broken-fits : (limit k : ℕ) (d : Doc) → lines_fit limit (content d) ≡ true → k ≤ since d.l
    → lines_fit limit (content (splice 0 0 (leftward (newline ∷ spaces k)) d)) ≡ true
broken-fits limit k d fits few =
    let whole = fit-joined limit d.l d.r (fit-left limit d.l d.r fits) (fit-right limit d.l d.r fits) in
    let joined = leb-true (since d.l + length (line_of d.r)) limit (sym whole ∙ fits) in
    ap (λ e. lines_fit limit (content e)) (insertions (leftward (newline ∷ spaces k)) d)
    ∙ (fit-spaced limit newline k d.l d.r fits ∙ le-leb (k + length (line_of d.r)) limit (omega (arith, few, joined)))

-- What deletions leave has no longer line in either half, so that the line where the halves are joined decides.
pub deleted-halves : (limit : ℕ) (way : Direction) (n : ℕ) (d : Doc) → lines_fit limit (content d) ≡ true → HalvesFit limit (times (delete way) n d)
unfolding splice
deleted-halves limit Left n d fits =
    rw (deletions-left, append-nil)
    (record { before = fit-take limit (length d.l - n) d.l (fit-left limit d.l d.r fits); behind = fit-right limit d.l d.r fits })
deleted-halves limit Right n d fits =
    rw (deletions-right, append-nil)
    (record {
      before = fit-take limit (length d.l - 0) d.l (fit-left limit d.l d.r fits);
      behind = fit-drop limit n d.r (fit-right limit d.l d.r fits);
    })

pub deleted-long : (limit : ℕ) (way : Direction) (n : ℕ) (d : Doc) → lines_fit limit (content d) ≡ true
    → let left = times (delete way) n d in (lines_fit limit (content left) ≡ false) ↔ (limit < since left.l + length (line_of left.r))
deleted-long limit way n d fits =
    let left = times (delete way) n d in
    let halves = deleted-halves limit way n d fits in
    let joined = fit-joined limit left.l left.r halves.before halves.behind in (
      λ e. leb-false _ _ (sym joined ∙ e),
      λ long. joined ∙ lt-leb _ _ long,
    )
