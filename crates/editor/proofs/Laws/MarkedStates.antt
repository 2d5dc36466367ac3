-- Laws of the plain state with its mark and held text: another mark leaves the texts, and CUT and PASTE keep them a session's. (02, M-101.)
use Rattle.std.proofs.Common.{Option, Some, None}
use mathlib.Core.Path.{◌≡◌, refl}
use mathlib.Core.Bool.{Bool, true, false, cond}
use Prim.Native.Nat.{ℕ}
use lib.ListN.{length}
use borrow.Author.Tests.{le-leb}
use Rattle.gap.specs.Rules.Doc.{Doc}
use Rattle.gap.proofs.Laws.Tests.{and_both}
use Rattle.gap.proofs.Laws.Holdable.{content-fits}
use Rattle.editor.specs.Words.{Delete, Mode, Main, Quoted}
use Rattle.editor.specs.Rules.Marks.{way_to, far_to}
use Rattle.editor.specs.Rules.Plain.{Side, Plain, holding, quiet, rang, Did, reporting, within}
use Rattle.editor.specs.Rules.LongLines.{longest_line, readable}
use Rattle.editor.specs.Rules.Bytes.{SoundTexts}
use Rattle.editor.specs.Rules.Keys.{side_of, with_side, on_side, matches}
use Rattle.editor.specs.Rules.Keys.{exchanged, substituted, recalled, with_mark, with_holding, cut_to, pasted, fits}
use Rattle.editor.proofs.Laws.Sides.{SoundSide, carried-sound, recalled-sound}
use Rattle.editor.proofs.Laws.States.{sound-fits, fits-side}

-- Another mark leaves the texts, and their room.
pub marked-sound : (T Q : ℕ) (mark : Option ℕ) (p : Plain) → SoundTexts T Q p → SoundTexts T Q (with_mark mark p)
marked-sound T Q mark p sound =
    record {
      text = sound.text;
      recall = sound.recall;
      quotation = sound.quotation;
      its_recall = sound.its_recall;
      pattern = sound.pattern;
      replacement = sound.replacement;
      held = sound.held;
      half = sound.half;
      its_half = sound.its_half;
      held_half = sound.held_half;
      mode = sound.mode;
      lines = sound.lines;
    }

pub fits-marked : (T Q : ℕ) (mark : Option ℕ) (p : Plain) → fits T Q (with_mark mark p) ≡ fits T Q p
unfolding fits
fits-marked T Q mark p = refl

-- The document with its held pair is a sound side, and a sound state with another such side is sound.
pub holding-sound : (T Q : ℕ) (p : Plain) → SoundTexts T Q p → SoundSide T (holding p)
holding-sound T Q p sound = record { text = sound.text; recall = sound.held; half = sound.held_half }

pub with-holding-sound : (T Q : ℕ) (s : Side) (p : Plain) → SoundTexts T Q p → SoundSide T s → readable longest_line (with_holding s p) ≡ true
    → SoundTexts T Q (with_holding s p)
with-holding-sound T Q s p sound side lines =
    record {
      text = side.text;
      recall = sound.recall;
      quotation = sound.quotation;
      its_recall = sound.its_recall;
      pattern = sound.pattern;
      replacement = sound.replacement;
      held = side.recall;
      half = sound.half;
      its_half = sound.its_half;
      held_half = side.half;
      mode = sound.mode;
      lines = lines;
    }

pub cut_fits : (T Q : ℕ) (mark : Option ℕ) (p : Plain) → SoundTexts T Q p → fits T Q (cut_to mark p).state ≡ true
unfolding cut_to fits
cut_fits T Q None p sound = sound-fits T Q p sound
cut_fits T Q (Some m) p sound =
    let l = length p.main.text.l in
    let side = carried-sound T (holding p) (holding-sound T Q p sound) Delete (way_to m l) (Some (record { steps = far_to m l; lines = 0 })) in
    and_both (le-leb _ _ (content-fits T _ side.text)) (le-leb _ _ (content-fits Q p.quoted.text sound.quotation))

pub cut-sound : (T Q : ℕ) (mark : Option ℕ) (p : Plain) → SoundTexts T Q p → readable longest_line (cut_to mark p).state ≡ true
    → SoundTexts T Q (cut_to mark p).state
unfolding cut_to
cut-sound T Q None p sound lines = sound
cut-sound T Q (Some m) p sound lines =
    let l = length p.main.text.l in
    marked-sound T Q None _
    (with-holding-sound T Q _ p sound
    (carried-sound T (holding p) (holding-sound T Q p sound) Delete (way_to m l) (Some (record { steps = far_to m l; lines = 0 }))) lines)

pub pasted-sound : (T Q : ℕ) (p : Plain) → SoundTexts T Q p → fits T Q (pasted p).state ≡ true → readable longest_line (pasted p).state ≡ true
    → SoundTexts T Q (pasted p).state
unfolding pasted
pasted-sound T Q p sound room lines =
    with-holding-sound T Q _ p sound
    (recalled-sound T (holding p) (holding-sound T Q p sound) (fits-side T Q Main (with_holding (recalled (holding p)).state p) room)) lines

-- Another mark leaves both sides.
pub side-marked : (mode : Mode) (mark : Option ℕ) (p : Plain) → side_of mode (with_mark mark p) ≡ side_of mode p
side-marked Main mark p = refl
side-marked Quoted mark p = refl

-- An edit of the mode's side leaves the mark, and does the same whatever mark there is.
pub on-side-mark : (edit : Side → Did Side) (p : Plain) → (on_side edit p).state.mark ≡ p.mark
unfolding on_side
on-side-mark edit p = go p.mode
  where
    go : (mode : Mode) → (with_side mode (edit (side_of mode p)).state p).mark ≡ p.mark
    go Main = refl
    go Quoted = refl

pub on-side-marked : (edit : Side → Did Side) (mark : Option ℕ) (p : Plain) → on_side edit (with_mark mark p) ≡ within (with_mark mark) (on_side edit p)
unfolding on_side
on-side-marked edit mark p = go p.mode
  where
    go : (mode : Mode)
        → within (λ s. with_side mode s (with_mark mark p)) (edit (side_of mode (with_mark mark p)))
        ≡ within (with_mark mark) (within (λ s. with_side mode s p) (edit (side_of mode p)))
    go Main = refl
    go Quoted = refl

-- Room after a substitution does not ask for the held text.
pub substituted-unheld : (T Q : ℕ) (held : Doc) (p : Plain)
    → fits T Q (substituted (with_holding (record { text = p.main.text; recall = held }) p)).state ≡ fits T Q (substituted p).state
unfolding substituted exchanged fits
substituted-unheld T Q held p = go (matches p.pattern p.main.text)
  where
    q : Plain
    q = with_holding (record { text = p.main.text; recall = held }) p

    go : (test : Bool)
        → fits T Q (cond test (reporting quiet (with_side Main (exchanged q) q)) (reporting rang q)).state
        ≡ fits T Q (cond test (reporting quiet (with_side Main (exchanged p) p)) (reporting rang p)).state
    go true = refl
    go false = refl

pub substituted-lines : (held : Doc) (p : Plain)
    → readable longest_line (substituted (with_holding (record { text = p.main.text; recall = held }) p)).state ≡ readable longest_line (substituted p).state
unfolding substituted exchanged
substituted-lines held p = go (matches p.pattern p.main.text)
  where
    q : Plain
    q = with_holding (record { text = p.main.text; recall = held }) p

    go : (test : Bool)
        → readable longest_line (cond test (reporting quiet (with_side Main (exchanged q) q)) (reporting rang q)).state
        ≡ readable longest_line (cond test (reporting quiet (with_side Main (exchanged p) p)) (reporting rang p)).state
    go true = refl
    go false = refl
