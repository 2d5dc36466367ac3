-- The request's sentences about MARK, CUT and PASTE, one by one. (02, M-101.)
use Rattle.std.proofs.Common.{Option, Some, None}
use mathlib.Core.Path.{◌≡◌, refl, sym, ap, ◌∙◌}
use mathlib.Core.List.{[], ◌++◌, append-nil}
use Prim.Native.Nat.{ℕ, ◌+◌, ◌-◌, ◌≤◌, ◌<◌}
use native.Mathlib.Nat.{sub-zero}
use native.Mathlib.Omega.{arith}
use borrow.Author.Tests.{le-leb, lt-leb}
use lib.ListN.{length, take, drop, length-drop}
use lib.Seq.{take-length, drop-length, take_at, take-append-le, drop-append-le, take-append_seam, drop-append_seam, drop-append-add}
use Rattle.gap.specs.Rules.Sequence.{part}
use Rattle.gap.specs.Rules.Doc.{Doc, empty, content, delete, times, passed, splice, removed}
use Rattle.gap.proofs.Laws.Doc.{same-texts, deletions-left, deletions-right, insertions}
use Rattle.editor.specs.Words.{Left, Right}
use Rattle.editor.specs.Words.{Mark, Cut, Paste}
use Rattle.editor.specs.Rules.Marks.{mark_through, mark_changed, way_to, far_to}
use Rattle.editor.specs.Rules.Plain.{Plain, quiet, rang, went, Did, reporting, within}
use Rattle.editor.specs.Rules.Keys.{carried, recalled, with_mark, marked_here, cut_to, pasted, acted, cutting, change_of, pressed}
use Rattle.editor.proofs.Laws.Changes.{size, put_back, length_removed, far_within}
use Rattle.editor.proofs.Laws.Marks.{cut-mark}
use Rattle.editor.proofs.Theorems.Marks.{mark-unchanged, paste-mark}

-- ---- MARK

-- It sets the mark at the cursor, reports 0 and changes nothing else. A mark that stood elsewhere is no more.
pub mark-sets : (p : Plain) → pressed Mark p ≡ reporting quiet (with_mark (Some (length p.main.text.l)) p)
unfolding pressed acted change_of marked_here
mark-sets p = ap (λ mark. reporting quiet (with_mark mark p)) (mark-unchanged p.main.text (Some (length p.main.text.l)))

-- ---- CUT

-- What it does, by the mark.
abbrev cut_at : Option ℕ → Plain → Did Plain
cut_at mark p =
    let did = cut_to mark p in
    within (with_mark (mark_changed (cutting mark (length p.main.text.l)) p.main.text did.state.mark)) did

by-mark : (p : Plain) (mark : Option ℕ) → p.mark ≡ mark → pressed Cut p ≡ cut_at mark p
unfolding pressed acted change_of
by-mark p mark same = ap (λ mark. cut_at mark p) same

-- Without a mark CUT sets the bell and does nothing else.
pub cut-without-mark : (p : Plain) → p.mark ≡ None → pressed Cut p ≡ reporting rang p
unfolding cut_to
cut-without-mark p none =
    by-mark p None none ∙ ap (λ mark. reporting rang (with_mark mark p)) (mark-unchanged p.main.text p.mark)

-- A state with another text and another held pair, and without a mark; all else, the recall text too, is as it was.
abbrev pub leaving : Doc → Doc → Plain → Plain
leaving text held p =
    record {
      main = record { text = text; recall = p.main.recall };
      quoted = p.quoted;
      pattern = p.pattern;
      replacement = p.replacement;
      mode = p.mode;
      held = held;
      mark = None;
    }

-- A deletion as far as a position of the text: the bytes between there and the cursor go.
module _ (m : ℕ) (d : Doc) where
  delete-back : m ≤ length d.l → times (delete Left) (length d.l - m) d ≡ record { l = take m (content d); r = drop (length d.l) (content d) }
  unfolding splice
  delete-back near =
      let up : length d.l - (length d.l - m) ≡ m = omega arith in
      deletions-left (length d.l - m) d
      ∙ same-texts (append-nil _ ∙ (ap (λ k. take k d.l) up ∙ sym (take-append-le m d.l d.r near))) (sym (drop-append_seam d.l d.r))

  removed-back : m ≤ length d.l → removed Left (length d.l - m) d ≡ record { l = part m (length d.l - m) (content d); r = [] }
  unfolding removed passed part
  removed-back near =
      let up : length d.l - (length d.l - m) ≡ m = omega arith in
      same-texts
      (ap (λ k. drop k d.l) up
      ∙ sym
      (ap (take (length d.l - m)) (drop-append-le m d.l d.r near)
      ∙ take_at (drop m d.l) d.r (length d.l - m) (length-drop m d.l)))
      refl

  delete-on : length d.l < m
      → times (delete Right) (m - length d.l) d ≡ record { l = take (length d.l) (content d); r = drop m (content d) }
  unfolding splice
  delete-on far =
      let up : m ≡ length d.l + (m - length d.l) = omega arith in
      deletions-right (m - length d.l) d
      ∙ same-texts (append-nil _ ∙ (ap (λ k. take k d.l) (sub-zero (length d.l)) ∙ (take-length d.l ∙ sym (take-append_seam d.l d.r))))
      (sym (ap (λ k. drop k (content d)) up ∙ drop-append-add d.l d.r (m - length d.l)))

  removed-on : removed Right (m - length d.l) d ≡ record { l = []; r = part (length d.l) (m - length d.l) (content d) }
  unfolding removed passed part
  removed-on = same-texts refl (sym (ap (take (m - length d.l)) (drop-append_seam d.l d.r)))

module _ (p : Plain) (m : ℕ) (marked : p.mark ≡ Some m) where
  -- CUT is the deletion of that many bytes towards the mark, with another store for what it took: a deletion's pair. It reports their number
  -- and no lines, drops the mark and leaves the recall text.
  pub cut-deletes : let l = length p.main.text.l in
      let way = way_to m l in
      let n = far_to m l in
      pressed Cut p ≡ reporting (went n 0) (leaving (times (delete way) n p.main.text) (removed way n p.main.text) p)
  unfolding cut_to carried mark_through
  cut-deletes = by-mark p (Some m) marked

  -- A mark left of the cursor, or at it: what lies between the two positions goes and is held left of the cursor. (DECISIONS C12.)
  pub cut_left : let d = p.main.text in
      let l = length d.l in m ≤ l
      → pressed Cut p
      ≡ reporting (went (l - m) 0)
      (leaving (record { l = take m (content d); r = drop l (content d) }) (record { l = part m (l - m) (content d); r = [] }) p)
  cut_left near =
      let d = p.main.text in
      cut-deletes
      ∙ rw (le-leb m (length d.l) near)
      (λ i. reporting (went (length d.l - m) 0) (leaving (delete-back m d near i) (removed-back m d near i) p))

  -- A mark right of the cursor: it is held right of it.
  pub cut_right : let d = p.main.text in
      let l = length d.l in l < m
      → pressed Cut p
      ≡ reporting (went (m - l) 0)
      (leaving (record { l = take l (content d); r = drop m (content d) }) (record { l = []; r = part l (m - l) (content d) }) p)
  cut_right far =
      let d = p.main.text in
      cut-deletes
      ∙ rw (lt-leb m (length d.l) far)
      (λ i. reporting (went (m - length d.l) 0) (leaving (delete-on m d far i) (removed-on m d i) p))

  -- The steps are the number of those bytes, if the mark is within the document.
  pub cut-steps : m ≤ size p.main.text → length (content (pressed Cut p).state.held) ≡ (pressed Cut p).report.steps
  cut-steps inside =
      let l = length p.main.text.l in
      ap (λ did. length (content did.state.held)) cut-deletes
      ∙ (length_removed (way_to m l) (far_to m l) p.main.text (far_within m p.main.text inside) ∙ sym (ap (λ did. did.report.steps) cut-deletes))

  -- CUT, then PASTE at once: text and cursor are as they were, and so is all else but for what is held and the mark, which is gone.
  pub cut-then-paste : let l = length p.main.text.l in
      pressed Paste (pressed Cut p).state ≡ reporting quiet (leaving p.main.text (removed (way_to m l) (far_to m l) p.main.text) p)
  unfolding pressed acted change_of pasted recalled mark_through
  cut-then-paste =
      let l = length p.main.text.l in
      let held = removed (way_to m l) (far_to m l) p.main.text in
      ap (λ did. pressed Paste did.state) cut-deletes
      ∙ ap (λ text. reporting quiet (leaving text held p)) (put_back (way_to m l) (far_to m l) p.main.text)

-- With the mark at the cursor: the text as it was, no steps, no bell, nothing held any more, and no mark. (DECISIONS C11.)
pub cut-at-cursor : (p : Plain) → p.mark ≡ Some (length p.main.text.l) → pressed Cut p ≡ reporting quiet (leaving p.main.text empty p)
unfolding times removed passed
cut-at-cursor p marked =
    let d = p.main.text in
    let l = length d.l in
    let none : l - l ≡ 0 = omega arith in
    cut-deletes p l marked
    ∙ (rw (le-leb l l (omega arith)) (ap (λ n. reporting (went n 0) (leaving (times (delete Left) n d) (removed Left n d) p)) none)
    ∙ ap (λ held. reporting quiet (leaving d held p)) (same-texts (ap (λ k. drop k d.l) (sub-zero l) ∙ drop-length d.l) refl))

-- Whatever the mark was, there is none behind CUT.
pub cut-drops : (p : Plain) → (pressed Cut p).state.mark ≡ None
unfolding pressed acted mark_through
cut-drops p = ap (mark_changed (change_of Cut p (acted Cut p)) p.main.text) (cut-mark p.mark p refl)

-- ---- PASTE

-- It inserts the held pair around the cursor, as RECALL does with the recall pair, and reports 0; the pair stays held, and the recall text stays.
pub paste-puts : (p : Plain)
    → let d = p.main.text in
    pressed Paste p
    ≡ reporting quiet
    (record {
      main = record { text = record { l = d.l ++ p.held.l; r = p.held.r ++ d.r }; recall = p.main.recall };
      quoted = p.quoted;
      pattern = p.pattern;
      replacement = p.replacement;
      mode = p.mode;
      held = p.held;
      mark = mark_through (length d.l) 0 (size p.held) p.mark;
    })
unfolding pressed acted change_of pasted recalled
paste-puts p =
    let d = p.main.text in
    λ i.
    reporting quiet
    (record {
      main = record { text = insertions p.held d i; recall = p.main.recall };
      quoted = p.quoted;
      pattern = p.pattern;
      replacement = p.replacement;
      mode = p.mode;
      held = p.held;
      mark = paste-mark p i;
    })
