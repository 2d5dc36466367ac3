-- The request's sentences about the mark, one by one. (02, M-101.) That the text behind a key is the change by which the mark goes: text-changed
-- and content-changed, passed on from Laws/Changes. That the mark stays within the document: mark-kept in Laws/Marks.
use Rattle.std.proofs.Common.{Option, Some, None}
use mathlib.Core.Path.{◌≡◌, refl, sym, ap, ◌∙◌}
use mathlib.Core.Logic.{⊎_elim, ◌≢◌}
use mathlib.Core.Bool.{true, false, cond, false≢true}
use mathlib.Core.List.{[], ◌++◌, append-nil}
use Prim.Native.Nat.{ℕ, ◌+◌, ◌-◌, ◌≤◌, ◌<◌}
use native.Mathlib.Nat.{add-zero, zero-add, sub-zero}
use native.Mathlib.Omega.{arith}
use borrow.Author.Tests.{leb-true, leb-false, ltb-true, ltb-false, eqb-true, eqb-false}
use lib.Dec.{eqb, leb, ltb}
use lib.ListN.{length, take}
use lib.Seq.{take-length}
use Rattle.gap.specs.Rules.Doc.{Doc, splice}
use Rattle.gap.proofs.Laws.Tests.{decided}
use Rattle.gap.proofs.Laws.Doc.{splice-twice}
use Rattle.editor.specs.Words.{Direction, Left, Right, Move, Delete, Place, Main, Quoted}
use Rattle.editor.specs.Words.{Key, Insert, Function, Recall, Quote, Find, Replace, Mark, Cut, Paste, Newline, Tab}
use Rattle.editor.specs.Rules.Marks.{mark_through, Change, unchanged, putting, taking, mark_changed}
use Rattle.editor.specs.Rules.Plain.{Plain}
use Rattle.editor.specs.Rules.Indents.{leftward, indented_line, spaces_to_tab}
use Rattle.editor.specs.Rules.Keys.{sound_key, acted, of_document, change_of, pressed}
use Rattle.editor.proofs.Laws.Changes.{changed, single, size, goes}
use Rattle.editor.proofs.Laws.Marks.{through-stays, through-gone, through-end, through-behind, through-nothing, marks, acted-mark}
pub use Rattle.editor.proofs.Laws.Changes.{text-changed, content-changed}

-- ---- The rule

module _ (from gone come m : ℕ) where
  -- Left of the stretch, and at its left end, it stays: insertion at the mark goes after it.
  pub mark-stays : m ≤ from → mark_through from gone come (Some m) ≡ Some m
  mark-stays h = through-stays from gone come m h

  -- A deletion around it, with text removed on both sides of it, takes it away.
  pub mark-gone : from < m → m < from + gone → mark_through from gone come (Some m) ≡ None
  mark-gone low high = through-gone from gone come m low high

  -- At the right end of the deleted stretch it stays, which is then where the stretch began; what is inserted there goes after it.
  pub mark-end : m ≡ from + gone → mark_through from gone come (Some m) ≡ Some from
  mark-end e = through-end from gone come m e

  -- What is inserted or removed wholly to its left moves it by as many bytes.
  pub mark-moves : from + gone < m → mark_through from gone come (Some m) ≡ Some (m - gone + come)
  mark-moves h = through-behind from gone come m h

-- Those are all cases.
by_cases : {A : Type 0} (from gone m : ℕ) → (m ≤ from → A) → (from < m → m < from + gone → A) → (m ≡ from + gone → A) → (from + gone < m → A) → A
by_cases from gone m before inside end behind =
    ⊎_elim (λ e. before (leb-true m from e))
    (λ e.
    ⊎_elim (λ f. inside (leb-false m from e) (ltb-true m (from + gone) f))
    (λ f.
    ⊎_elim (λ g. end (eqb-true m (from + gone) g))
    (λ g.
    let other : m ≢ from + gone = eqb-false m (from + gone) g in
    let high = ltb-false m (from + gone) f in
    behind (omega arith)) (decided (eqb m (from + gone))))
    (decided (ltb m (from + gone))))
    (decided (leb m from))

-- The same of an insertion alone and of a deletion alone.
pub mark-inserted : (from come m : ℕ) → from < m → mark_through from 0 come (Some m) ≡ Some (m + come)
mark-inserted from come m behind =
    let same : m - 0 + come ≡ m + come = omega arith in mark-moves from 0 come m (omega arith) ∙ ap Some same

pub mark-removed : (from gone m : ℕ) → from + gone ≤ m → mark_through from gone 0 (Some m) ≡ Some (m - gone)
mark-removed from gone m left =
    by_cases from gone m (λ h. let same : m ≡ m - gone = omega arith in mark-stays from gone 0 m h ∙ ap Some same)
    (λ low high. absurd (omega arith))
    (λ e. let same : from ≡ m - gone = omega arith in mark-end from gone 0 m e ∙ ap Some same)
    (λ h. let same : m - gone + 0 ≡ m - gone = omega arith in mark-moves from gone 0 m h ∙ ap Some same)

-- REPLACE deletes, then inserts: as one change it does the same.
pub mark-replaced : (from gone come : ℕ) (mark : Option ℕ) → mark_through from gone come mark ≡ mark_through from 0 come (mark_through from gone 0 mark)
unfolding mark_through
mark-replaced from gone come None = refl
mark-replaced from gone come (Some m) =
    let then = mark_through from 0 come in
    by_cases from gone m (λ h. mark-stays from gone come m h ∙ sym (ap then (mark-stays from gone 0 m h) ∙ mark-stays from 0 come m h))
    (λ low high. mark-gone from gone come m low high ∙ sym (ap then (mark-gone from gone 0 m low high)))
    (λ e. mark-end from gone come m e ∙ sym (ap then (mark-end from gone 0 m e) ∙ mark-stays from 0 come from (omega arith)))
    (λ h.
    let moved = mark-moves from 0 come (m - gone + 0) (omega arith) in
    let same : m - gone + come ≡ m - gone + 0 - 0 + come = omega arith in
    mark-moves from gone come m h ∙ (ap Some same ∙ sym (ap then (mark-moves from gone 0 m h) ∙ moved)))

-- The two as changes of a document, first the bytes behind the cursor gone and then the pair put in: text and mark are those of the one change.
module _ (k : ℕ) (x d : Doc) where
  pub text_in-two : changed (record { before = 0; behind = k; put = x }) d ≡ changed (putting x) (changed (taking Right k) d)
  text_in-two = sym (splice-twice k x d)

  pub mark-in-two : (mark : Option ℕ)
      → mark_changed (record { before = 0; behind = k; put = x }) d mark
      ≡ mark_changed (putting x) (changed (taking Right k) d) (mark_changed (taking Right k) d mark)
  unfolding splice
  mark-in-two mark =
      let same : length (take (length d.l - 0) d.l ++ []) ≡ length d.l =
      ap length (append-nil _ ∙ (ap (λ k. take k d.l) (sub-zero (length d.l)) ∙ take-length d.l)) in
      rw same (mark-replaced (length d.l - 0) (0 + k) (size x) mark)

-- Where nothing changes, it stays.
pub mark-unchanged : (d : Doc) (mark : Option ℕ) → mark_changed unchanged d mark ≡ mark
mark-unchanged d mark = through-nothing (length d.l - 0) mark

-- ---- The mark behind a key

-- One rule for every key but MARK and CUT: the mark goes through the key's change of the document.
pub mark-pressed : (k : Key) (p : Plain) → marks k ≡ false
    → (pressed k p).state.mark ≡ mark_changed (change_of k p (acted k p)) p.main.text p.mark
unfolding pressed
mark-pressed k p other = ap (mark_changed (change_of k p (acted k p)) p.main.text) (acted-mark k p other)

-- The text goes through the same change.
pub text-pressed : (k : Key) (p : Plain) → goes k ≡ false
    → (pressed k p).state.main.text ≡ changed (change_of k p (acted k p)) p.main.text
unfolding pressed
text-pressed k p here = text-changed k p here

leaves : (k : Key) (p : Plain) → marks k ≡ false → change_of k p (acted k p) ≡ unchanged → (pressed k p).state.mark ≡ p.mark
leaves k p other same =
    mark-pressed k p other ∙ (ap (λ c. mark_changed c p.main.text p.mark) same ∙ mark-unchanged p.main.text p.mark)

-- Moves, QUOTE, FIND and UPFIND leave the mark.
pub move-leaves : (way : Direction) (place : Place) (p : Plain) → (pressed (Function Move way place) p).state.mark ≡ p.mark
unfolding change_of
move-leaves way place p = leaves (Function Move way place) p refl refl

pub quote-leaves : (p : Plain) → (pressed Quote p).state.mark ≡ p.mark
unfolding change_of
quote-leaves p = leaves Quote p refl refl

pub find-leaves : (way : Direction) (p : Plain) → (pressed (Find way) p).state.mark ≡ p.mark
unfolding change_of
find-leaves way p = leaves (Find way) p refl refl

-- So does REPLACE without a match.
pub bell-leaves : (p : Plain) → (pressed Replace p).report.bell ≡ true → (pressed Replace p).state.mark ≡ p.mark
unfolding pressed change_of
bell-leaves p rings =
    let did = acted Replace p in
    leaves Replace p refl
    (ap (λ bell. cond bell unchanged (record { before = 0; behind = length did.state.pattern; put = did.state.replacement })) rings)

-- And every key in QUOTED but REPLACE: MARK, CUT and PASTE are refused there. (DECISIONS C14.)
pub quoted-leaves : (k : Key) (p : Plain) → p.mode ≡ Quoted → sound_key Quoted k ≡ true → ¬ (k ≡ Replace) → (pressed k p).state.mark ≡ p.mark
unfolding change_of sound_key
quoted-leaves (Insert b) p mode ok other = leaves (Insert b) p refl (ap (λ m. of_document m (putting (single b))) mode)
quoted-leaves (Function Move way place) p mode ok other = move-leaves way place p
quoted-leaves (Function Delete way place) p mode ok other =
    let did = acted (Function Delete way place) p in
    leaves (Function Delete way place) p refl (ap (λ m. of_document m (taking way did.report.steps)) mode)
quoted-leaves Recall p mode ok other = leaves Recall p refl (ap (λ m. of_document m (putting p.main.recall)) mode)
quoted-leaves Quote p mode ok other = quote-leaves p
quoted-leaves (Find way) p mode ok other = find-leaves way p
quoted-leaves Replace p mode ok other = absurd (other refl)
quoted-leaves Mark p mode ok other = absurd (false≢true ok)
quoted-leaves Cut p mode ok other = absurd (false≢true ok)
quoted-leaves Paste p mode ok other = absurd (false≢true ok)
quoted-leaves Newline p mode ok other = leaves Newline p refl (ap (λ m. of_document m (putting (leftward (indented_line p.main.text)))) mode)
quoted-leaves Tab p mode ok other = leaves Tab p refl (ap (λ m. of_document m (putting (leftward (spaces_to_tab p.main.text)))) mode)

-- What goes in goes in at the cursor, both halves of a pair; what a deletion takes ends or begins there. So each key's change is a stretch from a
-- position on, and the sentences above say where the mark is behind it.
module _ (p : Plain) where
  pub put-mark : (k : Key) (x : Doc) → marks k ≡ false → change_of k p (acted k p) ≡ putting x
      → (pressed k p).state.mark ≡ mark_through (length p.main.text.l) 0 (size x) p.mark
  put-mark k x other same =
      mark-pressed k p other
      ∙ (ap (λ c. mark_changed c p.main.text p.mark) same ∙ ap (λ from. mark_through from 0 (size x) p.mark) (sub-zero _))

  pub paste-mark : (pressed Paste p).state.mark ≡ mark_through (length p.main.text.l) 0 (size p.held) p.mark
  unfolding change_of
  paste-mark = put-mark Paste p.held refl refl

  module _ (main : p.mode ≡ Main) where
    pub insert-mark : (b : ℕ) → (pressed (Insert b) p).state.mark ≡ mark_through (length p.main.text.l) 0 1 p.mark
    unfolding change_of
    insert-mark b = put-mark (Insert b) (single b) refl (ap (λ m. of_document m (putting (single b))) main)

    pub recall-mark : (pressed Recall p).state.mark ≡ mark_through (length p.main.text.l) 0 (size p.main.recall) p.mark
    unfolding change_of
    recall-mark = put-mark Recall p.main.recall refl (ap (λ m. of_document m (putting p.main.recall)) main)

    -- A deletion is one stretch, not so many single deletions. (DECISIONS C7.)
    pub delete-left-mark : (place : Place)
        → let did = pressed (Function Delete Left place) p in
        did.state.mark ≡ mark_through (length p.main.text.l - did.report.steps) did.report.steps 0 p.mark
    unfolding pressed change_of
    delete-left-mark place =
        let n = (acted (Function Delete Left place) p).report.steps in
        mark-pressed (Function Delete Left place) p refl
        ∙ (ap (λ m. mark_changed (of_document m (taking Left n)) p.main.text p.mark) main
        ∙ ap (λ gone. mark_through (length p.main.text.l - n) gone 0 p.mark) (add-zero n))

    pub delete-right-mark : (place : Place)
        → let did = pressed (Function Delete Right place) p in
        did.state.mark ≡ mark_through (length p.main.text.l) did.report.steps 0 p.mark
    unfolding pressed change_of
    delete-right-mark place =
        let n = (acted (Function Delete Right place) p).report.steps in
        mark-pressed (Function Delete Right place) p refl
        ∙ (ap (λ m. mark_changed (of_document m (taking Right n)) p.main.text p.mark) main
        ∙ rw (sub-zero, zero-add n))

  -- REPLACE at a match, also in QUOTED: the pattern goes, the replacement comes, as they are then.
  pub replace-mark : let did = pressed Replace p in did.report.bell ≡ false
      → did.state.mark
      ≡ mark_through (length p.main.text.l) (length did.state.pattern) (size did.state.replacement) p.mark
  unfolding pressed change_of
  replace-mark silent =
      let q = (acted Replace p).state in
      let c : Change = record { before = 0; behind = length q.pattern; put = q.replacement } in
      mark-pressed Replace p refl
      ∙ (ap (λ bell. mark_changed (cond bell unchanged c) p.main.text p.mark) silent ∙ rw (sub-zero, zero-add))

  module _ (m : ℕ) (marked : p.mark ≡ Some m) where
    -- Insertion at the mark goes after it, the right half of a pair too: with the mark at the cursor, or left of it, the mark stays.
    -- (DECISIONS C10.)
    module _ (here : m ≤ length p.main.text.l) where
      stays-before : (come : ℕ) → mark_through (length p.main.text.l) 0 come p.mark ≡ Some m
      stays-before come = ap (mark_through (length p.main.text.l) 0 come) marked ∙ mark-stays (length p.main.text.l) 0 come m here

      pub paste-after-mark : (pressed Paste p).state.mark ≡ Some m
      paste-after-mark = paste-mark ∙ stays-before (size p.held)

      pub insert-after-mark : p.mode ≡ Main → (b : ℕ) → (pressed (Insert b) p).state.mark ≡ Some m
      insert-after-mark main b = insert-mark main b ∙ stays-before 1

      pub recall-after-mark : p.mode ≡ Main → (pressed Recall p).state.mark ≡ Some m
      recall-after-mark main = recall-mark main ∙ stays-before (size p.main.recall)

    -- Wholly to its left, what goes in moves it by as many bytes.
    module _ (left : length p.main.text.l < m) where
      moves-on : (come : ℕ) → mark_through (length p.main.text.l) 0 come p.mark ≡ Some (m + come)
      moves-on come = ap (mark_through (length p.main.text.l) 0 come) marked ∙ mark-inserted (length p.main.text.l) come m left

      pub paste-moves-mark : (pressed Paste p).state.mark ≡ Some (m + size p.held)
      paste-moves-mark = paste-mark ∙ moves-on (size p.held)

      pub insert-moves-mark : p.mode ≡ Main → (b : ℕ) → (pressed (Insert b) p).state.mark ≡ Some (m + 1)
      insert-moves-mark main b = insert-mark main b ∙ moves-on 1

      pub recall-moves-mark : p.mode ≡ Main → (pressed Recall p).state.mark ≡ Some (m + size p.main.recall)
      recall-moves-mark main = recall-mark main ∙ moves-on (size p.main.recall)

    -- A deletion around it, with text removed on both sides of it, takes it away.
    pub delete-left-around : p.mode ≡ Main → (place : Place)
        → let n = (pressed (Function Delete Left place) p).report.steps in
        length p.main.text.l - n < m → m < length p.main.text.l → (pressed (Function Delete Left place) p).state.mark ≡ None
    delete-left-around main place low high =
        let n = (pressed (Function Delete Left place) p).report.steps in
        let l = length p.main.text.l in
        delete-left-mark main place ∙ (ap (mark_through (l - n) n 0) marked ∙ mark-gone (l - n) n 0 m low (omega arith))

    pub delete-right-around : p.mode ≡ Main → (place : Place)
        → let n = (pressed (Function Delete Right place) p).report.steps in
        length p.main.text.l < m → m < length p.main.text.l + n → (pressed (Function Delete Right place) p).state.mark ≡ None
    delete-right-around main place low high =
        let n = (pressed (Function Delete Right place) p).report.steps in
        let l = length p.main.text.l in
        delete-right-mark main place ∙ (ap (mark_through l n 0) marked ∙ mark-gone l n 0 m low high)

    -- REPLACE deletes, then inserts. At the end of the pattern the mark comes to the cursor, and the replacement goes after it; inside it is gone.
    -- (DECISIONS C9.)
    module _ (silent : (pressed Replace p).report.bell ≡ false) where
      pub replace-at-end : m ≡ length p.main.text.l + length (pressed Replace p).state.pattern
          → (pressed Replace p).state.mark ≡ Some (length p.main.text.l)
      replace-at-end e =
          replace-mark silent ∙ (ap (mark_through _ _ (size (pressed Replace p).state.replacement)) marked ∙ mark-end _ _ _ m e)

      pub replace-around : length p.main.text.l < m → m < length p.main.text.l + length (pressed Replace p).state.pattern
          → (pressed Replace p).state.mark ≡ None
      replace-around low high =
          replace-mark silent ∙ (ap (mark_through _ _ (size (pressed Replace p).state.replacement)) marked ∙ mark-gone _ _ _ m low high)
