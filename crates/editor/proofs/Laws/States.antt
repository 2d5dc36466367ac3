-- Laws of the plain state: what its parts do keeps it a session's, where the finished texts fit.
use Rattle.std.proofs.Common.{Option, Some, None}
use mathlib.Core.Path.{◌≡◌, refl, ap, ◌∙◌}
use mathlib.Core.Bool.{Bool, true, false, cond}
use mathlib.Core.List.{List, []}
use Prim.Native.Nat.{ℕ, ◌≤◌}
use native.Mathlib.Omega.{arith}
use borrow.Author.Tests.{leb-true, le-leb}
use lib.Dec.{leb}
use lib.ListN.{length}
use Rattle.gap.specs.Rules.Doc.{Doc, content}
use Rattle.gap.specs.Rules.Layout.{allowed, Holdable}
use Rattle.gap.specs.Rules.LineLimits.{lines_fit}
use Rattle.gap.proofs.Laws.Tests.{and_left, and_right, and_both}
use Rattle.gap.proofs.Laws.Sequence.{every-left}
use Rattle.gap.proofs.Laws.Compared.{begins-fits}
use Rattle.gap.proofs.Laws.Doc.{content-moves}
use Rattle.gap.proofs.Laws.Holdable.{empty-holdable, content-fits, splice-holdable, left-holdable, right-holdable}
use Rattle.editor.specs.Words.{Direction, Passage, Action, Move, Place, Mode, Main, Quoted}
use Rattle.editor.specs.Rules.Places.{is_at}
use Rattle.editor.specs.Rules.Passages.{passage_to}
use Rattle.editor.specs.Rules.Plain.{Side, empty_side, Plain, quiet, rang, Did, reporting}
use Rattle.editor.specs.Rules.LongLines.{longest_line, readable}
use Rattle.editor.specs.Rules.Bytes.{alone, sizes_of, unquoted, SoundTexts}
use Rattle.editor.specs.Rules.Keys.{carried, function, side_of, with_side, on_side, other_mode, quoted, with_pattern, matches, searched, found}
use Rattle.editor.specs.Rules.Keys.{with_replacement, exchanged, substituted, fits}
use Rattle.editor.proofs.Laws.Sides.{SoundSide, carried-sound}

-- How long the text of the mode's side may be.
abbrev pub limit : ℕ → ℕ → Mode → ℕ
limit T Q Main = T
limit T Q Quoted = Q

-- How long a line of it may be: the quotation has no such limit, and none of its lines is longer than its store.
abbrev pub line_limit : ℕ → Mode → ℕ
line_limit Q Main = longest_line
line_limit Q Quoted = Q

pub side-with : (mode : Mode) (s : Side) (p : Plain) → side_of mode (with_side mode s p) ≡ s
side-with Main s p = refl
side-with Quoted s p = refl

-- A search is in the document: a quotation that becomes the pattern leaves it as it is.
pub same-document : (mode : Mode) (p : Plain) → (with_pattern mode p).main ≡ p.main
unfolding with_pattern
same-document Main p = refl
same-document Quoted p = refl

-- Both sides of a sound state are sound.
pub side-sound : (T Q : ℕ) (mode : Mode) (p : Plain) → SoundTexts T Q p → SoundSide (limit T Q mode) (side_of mode p)
side-sound T Q Main p sound = record { text = sound.text; recall = sound.recall; half = sound.half }
side-sound T Q Quoted p sound = record { text = sound.quotation; recall = sound.its_recall; half = sound.its_half }

-- A sound state with another sound side is sound, if the reader takes the document's lines. There is a quotation only in QUOTED.
with-main-sound : (T Q : ℕ) (s : Side) (p : Plain) → SoundTexts T Q p → SoundSide T s → readable longest_line (with_side Main s p) ≡ true
    → SoundTexts T Q (with_side Main s p)
with-main-sound T Q s p sound side lines =
    record {
      text = side.text;
      recall = side.recall;
      quotation = sound.quotation;
      its_recall = sound.its_recall;
      pattern = sound.pattern;
      replacement = sound.replacement;
      held = sound.held;
      half = side.half;
      its_half = sound.its_half;
      held_half = sound.held_half;
      mode = sound.mode;
      lines = lines;
    }

with-side-sound : (T Q : ℕ) (mode : Mode) (s : Side) (p : Plain) → p.mode ≡ mode → SoundTexts T Q p
    → SoundSide (limit T Q mode) s → readable longest_line (with_side mode s p) ≡ true → SoundTexts T Q (with_side mode s p)
with-side-sound T Q Main s p e sound side lines = with-main-sound T Q s p sound side lines
with-side-sound T Q Quoted s p e sound side lines =
    record {
      text = sound.text;
      recall = sound.recall;
      quotation = side.text;
      its_recall = side.recall;
      pattern = sound.pattern;
      replacement = sound.replacement;
      held = sound.held;
      half = sound.half;
      its_half = side.half;
      held_half = sound.held_half;
      mode = ap (λ m. unquoted m (sizes_of s)) e;
      lines = lines;
    }

-- Two edits of the mode's side, one after the other.
abbrev sides_in : Plain → Mode → Side → Side → Plain
sides_in p mode main quotation =
    record {
      main = main;
      quoted = quotation;
      pattern = p.pattern;
      replacement = p.replacement;
      mode = mode;
      held = p.held;
      mark = p.mark;
    }

pub on-side-twice : (edit next : Side → Did Side) (p : Plain) → on_side next (on_side edit p).state ≡ on_side (λ s. next (edit s).state) p
unfolding on_side
on-side-twice edit next p = go p.mode p.main p.quoted
  where
    go : (mode : Mode) (main quotation : Side)
        → on_side next (on_side edit (sides_in p mode main quotation)).state ≡ on_side (λ s. next (edit s).state) (sides_in p mode main quotation)
    go Main main quotation = refl
    go Quoted main quotation = refl

-- FULL's test: in a session it passes, and where it passes each text keeps to its limit.
pub sound-fits : (T Q : ℕ) (p : Plain) → SoundTexts T Q p → fits T Q p ≡ true
unfolding fits
sound-fits T Q p sound =
    and_both (le-leb _ _ (content-fits T p.main.text sound.text)) (le-leb _ _ (content-fits Q p.quoted.text sound.quotation))

pub fits-side : (T Q : ℕ) (mode : Mode) (p : Plain) → fits T Q p ≡ true → length (content (side_of mode p).text) ≤ limit T Q mode
unfolding fits
fits-side T Q Main p e = leb-true _ _ (and_left _ _ e)
fits-side T Q Quoted p e = leb-true _ _ (and_right (leb (length (content p.main.text)) T) _ e)

-- An edit of the mode's side: it is enough that the edit keeps that side, and the document's lines.
pub on-side-sound : (T Q : ℕ) (edit : Side → Did Side) (p : Plain) → SoundTexts T Q p
    → SoundSide (limit T Q p.mode) (edit (side_of p.mode p)).state → readable longest_line (on_side edit p).state ≡ true
    → SoundTexts T Q (on_side edit p).state
unfolding on_side
on-side-sound T Q edit p sound side lines = with-side-sound T Q p.mode (edit (side_of p.mode p)).state p refl sound side lines

pub on-side-fits : (T Q : ℕ) (edit : Side → Did Side) (p : Plain) → fits T Q (on_side edit p).state ≡ true
    → length (content (edit (side_of p.mode p)).state.text) ≤ limit T Q p.mode
unfolding on_side
on-side-fits T Q edit p room =
    let side = (edit (side_of p.mode p)).state in
    rw (side-with p.mode side p) at (fits-side T Q p.mode (with_side p.mode side p) room)

-- Another sound side fits, and so do moves and deletions: there is always room.
side-fits : (T Q : ℕ) (mode : Mode) (s : Side) (p : Plain) → SoundTexts T Q p → SoundSide (limit T Q mode) s → fits T Q (with_side mode s p) ≡ true
unfolding fits
side-fits T Q Main s p sound side =
    and_both (le-leb _ _ (content-fits T s.text side.text)) (le-leb _ _ (content-fits Q p.quoted.text sound.quotation))
side-fits T Q Quoted s p sound side =
    and_both (le-leb _ _ (content-fits T p.main.text sound.text)) (le-leb _ _ (content-fits Q s.text side.text))

pub function-fits : (T Q : ℕ) (action : Action) (way : Direction) (place : Place) (p : Plain) → SoundTexts T Q p
    → fits T Q (on_side (function action way place) p).state ≡ true
unfolding function on_side
function-fits T Q action way place p sound =
    let s = side_of p.mode p in
    side-fits T Q p.mode _ p sound
    (carried-sound (limit T Q p.mode) s (side-sound T Q p.mode p sound) action way (passage_to way (is_at place way) s.text))

-- They keep a session, if the lines that a deletion joins are not too long.
pub function-sound : (T Q : ℕ) (action : Action) (way : Direction) (place : Place) (p : Plain) → SoundTexts T Q p
    → readable longest_line (on_side (function action way place) p).state ≡ true → SoundTexts T Q (on_side (function action way place) p).state
unfolding function
function-sound T Q action way place p sound lines =
    let s = side_of p.mode p in
    on-side-sound T Q (function action way place) p sound
    (carried-sound (limit T Q p.mode) s (side-sound T Q p.mode p sound) action way (passage_to way (is_at place way) s.text)) lines

-- A state without its quotation, with another pattern, replacement and mode; a sound one stays sound.
abbrev without : Mode → List ℕ → Doc → Plain → Plain
without mode pattern replacement p =
    record {
      main = p.main;
      quoted = empty_side;
      pattern = pattern;
      replacement = replacement;
      mode = mode;
      held = p.held;
      mark = p.mark;
    }

cleared-sound : (T Q : ℕ) (pattern : List ℕ) (replacement : Doc) (mode : Mode) (p : Plain) → SoundTexts T Q p
    → Holdable Q (alone pattern) → Holdable Q replacement
    → SoundTexts T Q (without mode pattern replacement p)
cleared-sound T Q pattern replacement mode p sound pattern-held replacement-held =
    record {
      text = sound.text;
      recall = sound.recall;
      quotation = empty-holdable Q;
      its_recall = empty-holdable Q;
      pattern = pattern-held;
      replacement = replacement-held;
      held = sound.held;
      half = sound.half;
      its_half = refl;
      held_half = sound.held_half;
      mode = no-quotation mode;
      lines = sound.lines;
    }
  where
    no-quotation : (mode : Mode) → unquoted mode (sizes_of empty_side) ≡ true
    no-quotation Main = refl
    no-quotation Quoted = refl

pub quoted-sound : (T Q : ℕ) (p : Plain) → SoundTexts T Q p → SoundTexts T Q (quoted p).state
unfolding quoted
quoted-sound T Q p sound =
    cleared-sound T Q p.pattern p.replacement (other_mode p.mode) p sound sound.pattern sound.replacement

pub with-pattern-sound : (T Q : ℕ) (mode : Mode) (p : Plain) → SoundTexts T Q p → SoundTexts T Q (with_pattern mode p)
unfolding with_pattern
with-pattern-sound T Q Main p sound = sound
with-pattern-sound T Q Quoted p sound =
    cleared-sound T Q (content p.quoted.text) p.replacement Main p sound
    (left-holdable Q (content p.quoted.text) (content-fits Q p.quoted.text sound.quotation) sound.quotation.bytes)
    sound.replacement

-- A move leaves the lines as they are.
pub moved_lines : (way : Direction) (passage : Option Passage) (s : Side)
    → lines_fit longest_line (content (carried Move way passage s).state.text) ≡ lines_fit longest_line (content s.text)
unfolding carried
moved_lines way (Some passage) s = ap (lines_fit longest_line) (content-moves way passage.steps s.text)
moved_lines way None s = refl

pub searched-sound : (T Q : ℕ) (way : Direction) (p : Plain) → SoundTexts T Q p → SoundTexts T Q (searched way p).state
unfolding searched
searched-sound T Q way p sound =
    with-main-sound T Q _ p sound
    (carried-sound T p.main (side-sound T Q Main p sound) Move way (passage_to way (matches p.pattern) p.main.text))
    (moved_lines way (passage_to way (matches p.pattern) p.main.text) p.main ∙ sound.lines)

pub found-sound : (T Q : ℕ) (way : Direction) (p : Plain) → SoundTexts T Q p → SoundTexts T Q (found way p).state
unfolding found
found-sound T Q way p sound = searched-sound T Q way (with_pattern p.mode p) (with-pattern-sound T Q p.mode p sound)

pub with-replacement-sound : (T Q : ℕ) (mode : Mode) (p : Plain) → SoundTexts T Q p → SoundTexts T Q (with_replacement mode p)
unfolding with_replacement
with-replacement-sound T Q Main p sound = sound
with-replacement-sound T Q Quoted p sound =
    cleared-sound T Q p.pattern p.quoted.text Main p sound sound.pattern sound.quotation

-- The pattern that REPLACE gives to the recall text fits there, for it stood in the document.
exchanged-sound : (T Q : ℕ) (p : Plain) → SoundTexts T Q p → matches p.pattern p.main.text ≡ true
    → length (content (exchanged p).text) ≤ T → SoundSide T (exchanged p)
unfolding exchanged
exchanged-sound T Q p sound match fit =
    record {
      text = splice-holdable T 0 (length p.pattern) p.replacement p.main.text sound.replacement.bytes sound.text fit;
      recall =
          right-holdable T p.pattern (omega (arith, begins-fits p.pattern p.main.text.r match, sound.text.fits))
          (every-left allowed p.pattern [] sound.pattern.bytes);
      half = refl;
    }

pub substituted-sound : (T Q : ℕ) (p : Plain) → SoundTexts T Q p → fits T Q (substituted p).state ≡ true
    → readable longest_line (substituted p).state ≡ true → SoundTexts T Q (substituted p).state
unfolding substituted
substituted-sound T Q p sound room lines = go (matches p.pattern p.main.text) refl room lines
  where
    answer : Bool → Did Plain
    answer match = cond match (reporting quiet (with_side Main (exchanged p) p)) (reporting rang p)

    go : (match : Bool) → matches p.pattern p.main.text ≡ match → fits T Q (answer match).state ≡ true
        → readable longest_line (answer match).state ≡ true → SoundTexts T Q (answer match).state
    go true match room lines =
        with-main-sound T Q (exchanged p) p sound (exchanged-sound T Q p sound match (fits-side T Q Main _ room)) lines
    go false match room lines = sound
