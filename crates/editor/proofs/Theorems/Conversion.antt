-- Longer quarters (02, M-109): an old session's plain state written into longer quarters is read from them with the same record, and is a
-- session's there; FULL in QUOTED comes above a quarter's bytes. Over the lengths O and Q of an old and of a new quarter.
use mathlib.Core.Path.{◌≡◌, refl}
use mathlib.Core.Logic.{inr, ⊎_elim, ◌↔◌}
use mathlib.Core.List.{[]}
use Prim.Native.Nat.{ℕ, ◌≤◌, ◌<◌}
use native.Mathlib.Omega.{arith}
use lib.ListN.{length}
use Rattle.gap.specs.Rules.Sequence.{every, same_bytes, part, zeros}
use Rattle.gap.specs.Rules.Strings.{bytes}
use Rattle.gap.specs.Rules.Doc.{content, splice}
use Rattle.gap.specs.Rules.Lines.{since_after, lines}
use Rattle.gap.specs.Rules.LineLimits.{none_longer, lines_fit}
use Rattle.gap.specs.Rules.Indents.{spaces, leading, indent}
use Rattle.gap.specs.Rules.Layout.{gapped, paired, ungap, unpair, sound_gap, sound_pair}
use Rattle.gap.specs.Tables.Sentence.{all_of, broken, itself}
use Rattle.gap.specs.Tables.Written.{marked_after, stored_as}
use Rattle.editor.specs.Words.{Key, Lengths}
use Rattle.editor.specs.Rules.Plain.{Plain, refused}
use Rattle.editor.specs.Rules.Refusals.{FULL}
use Rattle.editor.specs.Rules.LongLines.{longest_line}
use Rattle.editor.specs.Rules.Marks.{mark_through}
use Rattle.editor.specs.Rules.Indents.{inserted_run, newlined, tabbed}
use Rattle.editor.specs.Rules.Keys.{Unsound, sound_key, inserted, on_side, quoted, acted, change_of, pressed, fits, bounded, key, keys}
use Rattle.editor.specs.Rules.Bytes.{Stores, quarter, sized, plain_of, stores_of, editor_ok, SoundPlain}
use Rattle.editor.specs.Rules.Conversion.{old_quarter, converted_stores}
use Rattle.editor.specs.Wording.Promise.{Sound}
use Rattle.editor.specs.Tables.ConversionPins.{conversion_pins}
use Rattle.editor.proofs.Theorems.Refusals.{refused_full}
use Rattle.editor.proofs.Laws.Conversion as law

pub conversions-pinned : broken itself conversion_pins ≡ []
unfolding every same_bytes part zeros bytes splice since_after spaces leading indent gapped paired ungap unpair sound_gap sound_pair all_of broken
    marked_after stored_as sound_key inserted on_side quoted inserted_run newlined tabbed acted change_of mark_through pressed fits bounded key keys
    quarter old_quarter sized plain_of stores_of editor_ok lines lines_fit none_longer longest_line
conversions-pinned = refl

-- An old quarter is no longer than a new one.
pub quarters-grow : old_quarter ≤ quarter
quarters-grow = law.old-shorter

module _ (O Q : ℕ) (n : Lengths) (b : Stores) (more : O ≤ Q) (sound : Sound O n b) where
  -- The plain state read from the new stores with the same record is the one read from the old.
  pub converted-plain : plain_of Q n (converted_stores O Q n b) ≡ plain_of O n b
  converted-plain = law.converted-plain O Q n b more sound

  -- They have the new lengths, and pass for a session's.
  pub converted-sound : Sound Q n (converted_stores O Q n b)
  converted-sound = law.converted-sound O Q n b more sound

-- A plain state that fits old quarters fits longer ones.
pub longer-sound : (T O Q : ℕ) (p : Plain) → O ≤ Q → SoundPlain T O p → SoundPlain T Q p
longer-sound = law.longer-sound

-- FULL, where the finished document is within T, comes exactly above a quarter's bytes in the finished quotation, and these are 1,024. (02, M-109.)
pub full-quoted : (T : ℕ) (k : Key) (p : Plain) → length (content (pressed k p).state.main.text) ≤ T
    → (key T quarter k p ≡ refused FULL) ↔ ((¬ Unsound p.mode k) × (1024 < length (content (pressed k p).state.quoted.text)))
unfolding quarter
full-quoted T k p within = (
  λ e.
      let (good, over) = (refused_full T 1024 k p).0 e in
      (good, ⊎_elim (λ document. absurd (omega (arith, document, within))) (λ quotation. quotation) over),
  λ (good, over). (refused_full T 1024 k p).1 (good, inr over),
)
