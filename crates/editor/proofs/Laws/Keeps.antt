-- What a key keeps of a session.
use mathlib.Core.Path.{◌≡◌, refl, sym, subst, ◌∙◌}
use mathlib.Core.Bool.{true}
use Prim.Native.Nat.{ℕ}
use Rattle.editor.specs.Words.{Key, Insert, Function, Recall, Quote, Find, Replace, Mark, Cut, Paste, Newline, Tab}
use Rattle.editor.specs.Rules.Plain.{Plain, Did, done}
use Rattle.editor.specs.Rules.LongLines.{longest_line, readable}
use Rattle.editor.specs.Rules.Indents.{newlined, tabbed}
use Rattle.editor.specs.Rules.Keys.{sound_key, inserted, recalled, with_replacement, replaced, marked_here, acted, pressed, fits, key}
use Rattle.editor.proofs.Laws.Outcomes.{accepted}
use Rattle.editor.proofs.Laws.Sides.{inserted-sound, recalled-sound, newlined-sound, tabbed-sound}
use Rattle.editor.proofs.Laws.States.{side-sound, on-side-sound, on-side-fits, function-sound, quoted-sound, found-sound}
use Rattle.editor.specs.Rules.Bytes.{SoundTexts, SoundPlain}
use Rattle.editor.proofs.Laws.States.{with-replacement-sound, substituted-sound}
use Rattle.editor.proofs.Laws.MarkedStates.{marked-sound, fits-marked, cut-sound, pasted-sound}
use Rattle.editor.proofs.Laws.Marks.{mark-kept}

-- What a sound key does keeps the texts a session's where the finished ones fit and the reader takes the document's lines.
pub acted-sound : (T Q : ℕ) (k : Key) (p : Plain) → sound_key p.mode k ≡ true → fits T Q (acted k p).state ≡ true
    → readable longest_line (acted k p).state ≡ true → SoundTexts T Q p → SoundTexts T Q (acted k p).state
unfolding acted sound_key replaced marked_here
acted-sound T Q (Insert b) p ok room lines sound =
    on-side-sound T Q (inserted b) p sound
    (inserted-sound _ _ (side-sound T Q p.mode p sound) b ok (on-side-fits T Q (inserted b) p room)) lines
acted-sound T Q (Function action way place) p ok room lines sound = function-sound T Q action way place p sound lines
acted-sound T Q Recall p ok room lines sound =
    on-side-sound T Q recalled p sound
    (recalled-sound _ _ (side-sound T Q p.mode p sound) (on-side-fits T Q recalled p room)) lines
acted-sound T Q Quote p ok room lines sound = quoted-sound T Q p sound
acted-sound T Q (Find way) p ok room lines sound = found-sound T Q way p sound
acted-sound T Q Replace p ok room lines sound =
    substituted-sound T Q (with_replacement p.mode p) (with-replacement-sound T Q p.mode p sound) room lines
acted-sound T Q Mark p ok room lines sound = marked-sound T Q _ p sound
acted-sound T Q Cut p ok room lines sound = cut-sound T Q p.mark p sound lines
acted-sound T Q Paste p ok room lines sound = pasted-sound T Q p sound room lines
acted-sound T Q Newline p ok room lines sound =
    on-side-sound T Q newlined p sound
    (newlined-sound _ _ (side-sound T Q p.mode p sound) (on-side-fits T Q newlined p room)) lines
acted-sound T Q Tab p ok room lines sound =
    on-side-sound T Q tabbed p sound
    (tabbed-sound _ _ (side-sound T Q p.mode p sound) (on-side-fits T Q tabbed p room)) lines

pub fits-acted : (T Q : ℕ) (k : Key) (p : Plain) → fits T Q (pressed k p).state ≡ fits T Q (acted k p).state
unfolding pressed
fits-acted T Q k p = fits-marked T Q _ (acted k p).state

pub lines-acted : (k : Key) (p : Plain) → readable longest_line (pressed k p).state ≡ readable longest_line (acted k p).state
unfolding pressed
lines-acted k p = refl

pub texts-kept : (T Q : ℕ) (k : Key) (p : Plain) → SoundTexts T Q (acted k p).state → SoundTexts T Q (pressed k p).state
unfolding pressed
texts-kept T Q k p sound = marked-sound T Q _ (acted k p).state sound

-- Every accepted key leads from a session to a session.
pub key-keeps : (T Q : ℕ) (k : Key) (p : Plain) (did : Did Plain) → SoundPlain T Q p → key T Q k p ≡ done did
    → SoundPlain T Q did.state
key-keeps T Q k p did sound e =
    let (ok, room, lines, same) = (accepted T Q k p did).0 e in
    subst (λ d. SoundPlain T Q d.state) same
    (record {
      texts = texts-kept T Q k p (acted-sound T Q k p ok (sym (fits-acted T Q k p) ∙ room) (sym (lines-acted k p) ∙ lines) sound.texts);
      mark = mark-kept k p sound.mark;
    })
