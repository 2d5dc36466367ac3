-- Laws of one side, a text with its recall text: what makes a side a session's, and that every edit of a side keeps it.
use Rattle.std.proofs.Common.{Option, Some, None}
use mathlib.Core.Path.{◌≡◌, refl}
use mathlib.Core.Bool.{true}
use mathlib.Core.List.{[], ◌∷◌}
use Prim.Native.Nat.{ℕ, ◌-◌, ◌%◌, ◌≤◌}
use lib.Dec.{eqb}
use lib.ListN.{length}
use Rattle.gap.specs.Rules.Sequence.{every}
use Rattle.gap.specs.Rules.Doc.{Doc, content, delete, times, passed, removed, splice}
use Rattle.gap.specs.Rules.Lines.{newline, since}
use Rattle.gap.specs.Rules.Indents.{spaces, indent}
use Rattle.gap.specs.Rules.Layout.{allowed, Holdable}
use Rattle.gap.proofs.Laws.Tests.{and_both, or_right}
use Rattle.gap.proofs.Laws.Sequence.{every-both}
use Rattle.gap.proofs.Laws.Indents.{spaces-allowed}
use Rattle.gap.proofs.Laws.Holdable.{splice-holdable, deletions-holdable, moves-holdable, removed-holdable}
use Rattle.editor.specs.Words.{Direction, Left, Right, Passage, Action, Move, Delete}
use Rattle.editor.specs.Rules.Plain.{Side}
use Rattle.editor.specs.Rules.Indents.{leftward, inserted_run, indented_line, newlined, spaces_to_tab, tabbed}
use Rattle.editor.specs.Rules.Bytes.{sizes_of, one_half}
use Rattle.editor.specs.Rules.Keys.{inserted, carried, recalled}

-- The text and its recall text fit their stores with allowed bytes, and one half of the recall text is empty.
pub record SoundSide (size : ℕ) (s : Side) : Type 0 where
  pub text : Holdable size s.text
  pub recall : Holdable size s.recall
  pub half : one_half (sizes_of s) ≡ true

removed-half : (n : ℕ) (way : Direction) (text d : Doc) → one_half (sizes_of (record { text = text; recall = removed way n d })) ≡ true
unfolding removed
removed-half n Left text d = or_right (eqb (length (passed Left n d)) 0) refl
removed-half n Right text d = refl

module _ (size : ℕ) (s : Side) (sound : SoundSide size s) where
  -- Moves and deletions keep a side sound, wherever their search ends.
  pub carried-sound : (action : Action) (way : Direction) (passage : Option Passage) → SoundSide size (carried action way passage s).state
  unfolding carried
  carried-sound Move way (Some passage) =
      record { text = moves-holdable size passage.steps way s.text sound.text; recall = sound.recall; half = sound.half }
  carried-sound Move way None = sound
  carried-sound Delete way (Some passage) =
      record {
        text = deletions-holdable size passage.steps way s.text sound.text;
        recall = removed-holdable size passage.steps way s.text sound.text;
        half = removed-half passage.steps way (times (delete way) passage.steps s.text) s.text;
      }
  carried-sound Delete way None = sound

  -- A pair of allowed bytes around the cursor keeps it sound if the finished text fits: so do an insertion, RECALL, NEWLINE and TAB.
  put-sound : (x : Doc) → every allowed (content x) ≡ true → length (content (splice 0 0 x s.text)) ≤ size
      → SoundSide size (record { text = splice 0 0 x s.text; recall = s.recall })
  put-sound x ok fits =
      record { text = splice-holdable size 0 0 x s.text ok sound.text fits; recall = sound.recall; half = sound.half }

  pub inserted-sound : (b : ℕ) → allowed b ≡ true → length (content (inserted b s).state.text) ≤ size
      → SoundSide size (inserted b s).state
  unfolding inserted every
  inserted-sound b ok fits = put-sound (record { l = b ∷ []; r = [] }) (and_both ok refl) fits

  pub recalled-sound : length (content (recalled s).state.text) ≤ size → SoundSide size (recalled s).state
  unfolding recalled
  recalled-sound fits = put-sound s.recall sound.recall.bytes fits

  pub newlined-sound : length (content (newlined s).state.text) ≤ size → SoundSide size (newlined s).state
  unfolding newlined inserted_run every
  newlined-sound fits =
      let n = indent s.text.l in
      put-sound (leftward (indented_line s.text)) (every-both allowed (newline ∷ spaces n) [] (spaces-allowed n) refl) fits

  pub tabbed-sound : length (content (tabbed s).state.text) ≤ size → SoundSide size (tabbed s).state
  unfolding tabbed inserted_run every
  tabbed-sound fits =
      let n = 8 - since s.text.l % 8 in
      put-sound (leftward (spaces_to_tab s.text)) (every-both allowed (spaces n) [] (spaces-allowed n) refl) fits
