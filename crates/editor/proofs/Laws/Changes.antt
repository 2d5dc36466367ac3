-- What a key changes of the document: the text behind it is that change of the text before it, and no more is taken away than is there.
-- (02, M-101.)
use Rattle.std.proofs.Common.{Option, Some, None}
use mathlib.Core.Path.{◌≡◌, refl, sym, ap, ◌∙◌}
use mathlib.Core.Bool.{Bool, true, false, cond, false≢true}
use mathlib.Core.List.{[], ◌∷◌, append-nil}
use Prim.Native.Nat.{ℕ, ◌+◌, ◌-◌, ◌≤◌}
use native.Mathlib.Nat.{sub-zero}
use native.Mathlib.Omega.{arith}
use borrow.Author.Tests.{leb-true, leb-false}
use lib.Dec.{leb}
use lib.ListN.{length, drop, length-append, length-drop, take-append-drop}
use lib.Seq.{take-length, length-take-le}
use Rattle.gap.specs.Rules.Doc.{Doc, empty, content, room, delete, times, passed, splice, removed}
use Rattle.gap.specs.Rules.Nearest.{distance}
use Rattle.gap.proofs.Laws.Doc.{same-texts, deletions-left, deletions-right, insertions, content-moves}
use Rattle.gap.proofs.Laws.Compared.{begins-fits}
use Rattle.gap.proofs.Theorems.Distance.{distance_least}
use Rattle.editor.specs.Words.{Direction, Left, Right, Passage, Move, Delete, Mode, Main, Quoted}
use Rattle.editor.specs.Words.{Key, Insert, Function, Recall, Quote, Find, Replace, Mark, Cut, Paste, Newline, Tab}
use Rattle.editor.specs.Rules.Places.{is_at}
use Rattle.editor.specs.Rules.Passages.{with_lines, passage_to}
use Rattle.editor.specs.Rules.Marks.{Change, unchanged, putting, taking, way_to, far_to, mark_within}
use Rattle.editor.specs.Rules.Plain.{Side, Plain, quiet, rang, Did, reporting, within}
use Rattle.editor.specs.Rules.Indents.{leftward, inserted_run, indented_line, newlined, spaces_to_tab, tabbed}
use Rattle.editor.specs.Rules.Keys.{inserted, carried, function, recalled, side_of, with_side, on_side, quoted}
use Rattle.editor.specs.Rules.Keys.{with_pattern, matches, searched, found, with_replacement, exchanged, substituted, replaced}
use Rattle.editor.specs.Rules.Keys.{marked_here, cut_to, pasted, acted, of_document, cutting, change_of}

-- A change carried out: the one splice.
abbrev pub changed : Change → Doc → Doc
changed c d = splice c.before c.behind c.put d

-- What an insertion puts before the cursor.
abbrev pub single : ℕ → Doc
single b = record { l = b ∷ []; r = [] }

-- How long a document is.
abbrev pub size : Doc → ℕ
size d = length d.l + length d.r

-- ---- The text behind a key

-- No change leaves the text.
pub unchanged-text : (d : Doc) → changed unchanged d ≡ d
unchanged-text d = insertions empty d ∙ same-texts (append-nil d.l) refl

-- n deletions are the change that takes n bytes.
pub taken-text : (way : Direction) (n : ℕ) (d : Doc) → times (delete way) n d ≡ changed (taking way n) d
taken-text Left n d = deletions-left n d
taken-text Right n d = deletions-right n d

-- What n deletions removed, put around the cursor again, gives the text back.
pub put_back : (way : Direction) (n : ℕ) (d : Doc) → splice 0 0 (removed way n d) (times (delete way) n d) ≡ d
unfolding removed passed splice
put_back Left n d =
    ap (splice 0 0 (removed Left n d)) (deletions-left n d) ∙ insertions (removed Left n d) (splice n 0 empty d)
    ∙ same-texts (rw (append-nil, take-append-drop)) refl
put_back Right n d =
    ap (splice 0 0 (removed Right n d)) (deletions-right n d) ∙ insertions (removed Right n d) (splice 0 n empty d)
    ∙ same-texts (simp (append-nil, sub-zero, take-length)) (take-append-drop n d.r)

-- And where there is room for them, it is n bytes.
pub length_removed : (way : Direction) (n : ℕ) (d : Doc) → n ≤ room way d → length (content (removed way n d)) ≡ n
unfolding removed passed
length_removed Left n d near =
    omega (arith, length-append (drop (length d.l - n) d.l) [], length-drop (length d.l - n) d.l)
length_removed Right n d near = length-take-le n d.r near

-- A deletion takes the bytes that it reports; with the bell none.
deleted-text : (way : Direction) (passage : Option Passage) (s : Side)
    → let did = carried Delete way passage s in did.state.text ≡ changed (taking way did.report.steps) s.text
unfolding carried
deleted-text way (Some passage) s = taken-text way passage.steps s.text
deleted-text Left None s = sym (unchanged-text s.text)
deleted-text Right None s = sym (unchanged-text s.text)

-- A move keeps the content.
pub moved-content : (way : Direction) (passage : Option Passage) (s : Side) → content (carried Move way passage s).state.text ≡ content s.text
unfolding carried
moved-content way (Some passage) s = content-moves way passage.steps s.text
moved-content way None s = refl

-- An edit of the mode's side changes the document in MAIN alone.
on-side-changed : (change : ℕ → Change) (edit : Side → Did Side) (p : Plain)
    → (edit p.main).state.text ≡ changed (change (edit p.main).report.steps) p.main.text
    → let did = on_side edit p in
    did.state.main.text ≡ changed (of_document p.mode (change did.report.steps)) p.main.text
unfolding on_side
on-side-changed change edit p law = go p.mode
  where
    go : (mode : Mode) → let did = within (λ s. with_side mode s p) (edit (side_of mode p)) in
        did.state.main.text ≡ changed (of_document mode (change did.report.steps)) p.main.text
    go Main = law
    go Quoted = sym (unchanged-text p.main.text)

on-side-content : (edit : Side → Did Side) (p : Plain) → content (edit p.main).state.text ≡ content p.main.text
    → content (on_side edit p).state.main.text ≡ content p.main.text
unfolding on_side
on-side-content edit p law = go p.mode
  where
    go : (mode : Mode) → content (with_side mode (edit (side_of mode p)).state p).main.text ≡ content p.main.text
    go Main = law
    go Quoted = refl

-- A search keeps the content, also where a quotation becomes the pattern.
found-content : (way : Direction) (mode : Mode) (p : Plain)
    → content (searched way (with_pattern mode p)).state.main.text ≡ content p.main.text
unfolding searched with_pattern
found-content way Main p = moved-content way (passage_to way (matches p.pattern) p.main.text) p.main
found-content way Quoted p = moved-content way (passage_to way (matches (content p.quoted.text)) p.main.text) p.main

-- REPLACE's change, read from what it did.
abbrev exchange : Did Plain → Change
exchange did = cond did.report.bell unchanged (record { before = 0; behind = length did.state.pattern; put = did.state.replacement })

exchanged-text : (q : Plain) (match : Bool)
    → let did = cond match (reporting quiet (with_side Main (exchanged q) q)) (reporting rang q) in
    did.state.main.text ≡ changed (exchange did) q.main.text
unfolding exchanged
exchanged-text q true = refl
exchanged-text q false = sym (unchanged-text q.main.text)

replaced-text : (mode : Mode) (p : Plain)
    → let did = substituted (with_replacement mode p) in did.state.main.text ≡ changed (exchange did) p.main.text
unfolding substituted with_replacement
replaced-text Main p = exchanged-text p (matches p.pattern p.main.text)
replaced-text Quoted p = exchanged-text (with_replacement Quoted p) (matches p.pattern p.main.text)

cut-text : (mark : Option ℕ) (p : Plain)
    → (cut_to mark p).state.main.text ≡ changed (cutting mark (length p.main.text.l)) p.main.text
unfolding cut_to carried
cut-text None p = sym (unchanged-text p.main.text)
cut-text (Some m) p = let l = length p.main.text.l in taken-text (way_to m l) (far_to m l) p.main.text

-- The keys that go somewhere: moves and searches. All others leave the cursor where the change is.
abbrev pub goes : Key → Bool
goes (Insert b) = false
goes (Function Move way place) = true
goes (Function Delete way place) = false
goes Recall = false
goes Quote = false
goes (Find way) = true
goes Replace = false
goes Mark = false
goes Cut = false
goes Paste = false
goes Newline = false
goes Tab = false

-- The text behind a key that does not go somewhere is the key's change of the text before it.
pub text-changed : (k : Key) (p : Plain) → goes k ≡ false
    → let did = acted k p in
    let c = change_of k p did in did.state.main.text ≡ splice c.before c.behind c.put p.main.text
unfolding acted change_of inserted function recalled quoted replaced marked_here pasted newlined tabbed inserted_run
text-changed (Insert b) p here = on-side-changed (λ n. putting (single b)) (inserted b) p refl
text-changed (Function Move way place) p here = absurd (false≢true (sym here))
text-changed (Function Delete way place) p here =
    on-side-changed (taking way) (function Delete way place) p (deleted-text way (passage_to way (is_at place way) p.main.text) p.main)
text-changed Recall p here = on-side-changed (λ n. putting p.main.recall) recalled p refl
text-changed Quote p here = sym (unchanged-text p.main.text)
text-changed (Find way) p here = absurd (false≢true (sym here))
text-changed Replace p here = replaced-text p.mode p
text-changed Mark p here = sym (unchanged-text p.main.text)
text-changed Cut p here = cut-text p.mark p
text-changed Paste p here = refl
text-changed Newline p here = on-side-changed (λ n. putting (leftward (indented_line p.main.text))) newlined p refl
text-changed Tab p here = on-side-changed (λ n. putting (leftward (spaces_to_tab p.main.text))) tabbed p refl

-- The content behind every key is that of the change of the text before it.
pub content-changed : (k : Key) (p : Plain)
    → let did = acted k p in
    let c = change_of k p did in content did.state.main.text ≡ content (splice c.before c.behind c.put p.main.text)
unfolding acted change_of function found
content-changed (Insert b) p = ap content (text-changed (Insert b) p refl)
content-changed (Function Move way place) p =
    on-side-content (function Move way place) p (moved-content way (passage_to way (is_at place way) p.main.text) p.main)
    ∙ sym (ap content (unchanged-text p.main.text))
content-changed (Function Delete way place) p = ap content (text-changed (Function Delete way place) p refl)
content-changed Recall p = ap content (text-changed Recall p refl)
content-changed Quote p = ap content (text-changed Quote p refl)
content-changed (Find way) p = found-content way p.mode p ∙ sym (ap content (unchanged-text p.main.text))
content-changed Replace p = ap content (text-changed Replace p refl)
content-changed Mark p = ap content (text-changed Mark p refl)
content-changed Cut p = ap content (text-changed Cut p refl)
content-changed Paste p = ap content (text-changed Paste p refl)
content-changed Newline p = ap content (text-changed Newline p refl)
content-changed Tab p = ap content (text-changed Tab p refl)

-- ---- A change takes no more than is there

pub record Takes (c : Change) (d : Doc) : Type 0 where
  pub before : c.before ≤ length d.l
  pub behind : c.behind ≤ length d.r

putting-within : (x d : Doc) → Takes (putting x) d
putting-within x d = record { before = omega arith; behind = omega arith }

taking-within : (way : Direction) (n : ℕ) (d : Doc) → n ≤ room way d → Takes (taking way n) d
taking-within Left n d near = record { before = near; behind = omega arith }
taking-within Right n d near = record { before = omega arith; behind = near }

-- A deletion goes no further than there is room.
deleted-within : (way : Direction) (place : Doc → Bool) (s : Side)
    → Takes (taking way (carried Delete way (passage_to way place s.text) s).report.steps) s.text
unfolding carried with_lines passage_to
deleted-within way place s = go (distance way place s.text) refl
  where
    go : (answer : Option ℕ) → distance way place s.text ≡ answer
        → Takes (taking way (carried Delete way (with_lines way s.text answer) s).report.steps) s.text
    go (Some n) e = taking-within way n s.text ((distance_least way place s.text n).0 e).within
    go None e = taking-within way 0 s.text (omega arith)

on-side-within : (change : ℕ → Change) (edit : Side → Did Side) (p : Plain)
    → Takes (change (edit p.main).report.steps) p.main.text
    → Takes (of_document p.mode (change (on_side edit p).report.steps)) p.main.text
unfolding on_side
on-side-within change edit p law = go p.mode
  where
    go : (mode : Mode) → Takes (of_document mode (change (edit (side_of mode p)).report.steps)) p.main.text
    go Main = law
    go Quoted = putting-within empty p.main.text

-- REPLACE takes the pattern where it stands behind the cursor.
exchanged-within : (q : Plain) (match : Bool) → matches q.pattern q.main.text ≡ match
    → Takes (exchange (cond match (reporting quiet (with_side Main (exchanged q) q)) (reporting rang q))) q.main.text
exchanged-within q true e = record { before = omega arith; behind = begins-fits q.pattern q.main.text.r e }
exchanged-within q false e = putting-within empty q.main.text

replaced-within : (mode : Mode) (p : Plain) → Takes (exchange (substituted (with_replacement mode p))) p.main.text
unfolding substituted with_replacement
replaced-within Main p = exchanged-within p (matches p.pattern p.main.text) refl
replaced-within Quoted p = exchanged-within (with_replacement Quoted p) (matches p.pattern p.main.text) refl

-- From the cursor to a mark within the document there is room.
pub far_within : (m : ℕ) (d : Doc) → m ≤ size d → let l = length d.l in far_to m l ≤ room (way_to m l) d
far_within m d inside = go (leb m (length d.l)) refl
  where
    go : (before : Bool) → leb m (length d.l) ≡ before
        → cond before (length d.l - m) (m - length d.l) ≤ room (cond before Left Right) d
    go true e = omega arith
    go false e = omega (arith, leb-false m (length d.l) e)

cut-within : (mark : Option ℕ) (d : Doc) → mark_within (size d) mark ≡ true → Takes (cutting mark (length d.l)) d
cut-within None d inside = putting-within empty d
cut-within (Some m) d inside =
    let l = length d.l in taking-within (way_to m l) (far_to m l) d (far_within m d (leb-true m (size d) inside))

-- Every key takes no more than is there, before the cursor and behind it, if the mark is within the document.
pub change-within : (k : Key) (p : Plain) → mark_within (length p.main.text.l + length p.main.text.r) p.mark ≡ true
    → Takes (change_of k p (acted k p)) p.main.text
unfolding acted change_of function replaced
change-within (Insert b) p inside = on-side-within (λ n. putting (single b)) (inserted b) p (putting-within (single b) p.main.text)
change-within (Function Move way place) p inside = putting-within empty p.main.text
change-within (Function Delete way place) p inside =
    on-side-within (taking way) (function Delete way place) p (deleted-within way (is_at place way) p.main)
change-within Recall p inside = on-side-within (λ n. putting p.main.recall) recalled p (putting-within p.main.recall p.main.text)
change-within Quote p inside = putting-within empty p.main.text
change-within (Find way) p inside = putting-within empty p.main.text
change-within Replace p inside = replaced-within p.mode p
change-within Mark p inside = putting-within empty p.main.text
change-within Cut p inside = cut-within p.mark p.main.text inside
change-within Paste p inside = putting-within p.held p.main.text
change-within Newline p inside =
    let x = leftward (indented_line p.main.text) in on-side-within (λ n. putting x) newlined p (putting-within x p.main.text)
change-within Tab p inside =
    let x = leftward (spaces_to_tab p.main.text) in on-side-within (λ n. putting x) tabbed p (putting-within x p.main.text)
