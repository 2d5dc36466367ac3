-- Opening gives a session, and every accepted key leads from a session to a session (01, session).
use mathlib.Core.Path.{◌≡◌, refl}
use mathlib.Core.Bool.{true}
use mathlib.Core.List.{List, [], ◌∷◌}
use Prim.Native.Nat.{ℕ, ◌≤◌}
use native.Mathlib.Omega.{arith}
use lib.ListN.{take, length-take}
use Rattle.gap.specs.Rules.Sequence.{every}
use Rattle.gap.specs.Rules.Layout.{allowed}
use Rattle.gap.specs.Rules.LineLimits.{lines_fit}
use Rattle.editor.specs.Words.{Key}
use Rattle.editor.specs.Rules.Plain.{Plain, opening, Did, Outcome, refused, done}
use Rattle.editor.specs.Rules.LongLines.{longest_line}
use Rattle.editor.specs.Rules.Keys.{key, after, keys}
use Rattle.editor.proofs.Laws.Keeps as law
use Rattle.gap.proofs.Laws.Holdable.{empty-holdable, right-holdable}
use Rattle.editor.specs.Rules.Bytes.{SoundPlain}

-- Where n fits, the first n bytes are allowed, and the reader takes their lines, opening gives a session.
pub opening-sound : (T Q n : ℕ) (text : List ℕ) → n ≤ T → every allowed (take n text) ≡ true → lines_fit longest_line (take n text) ≡ true
    → SoundPlain T Q (opening (take n text))
opening-sound T Q n text fits bytes lines =
    record {
      texts = record {
        text = right-holdable T (take n text) (simp length-take (omega arith)) bytes;
        recall = empty-holdable T;
        quotation = empty-holdable Q;
        its_recall = empty-holdable Q;
        pattern = empty-holdable Q;
        replacement = empty-holdable Q;
        held = empty-holdable T;
        half = refl;
        its_half = refl;
        held_half = refl;
        mode = refl;
        lines = lines;
      };
      mark = refl;
    }

-- Every accepted key leads from a session to a session.
pub key-keeps : (T Q : ℕ) (k : Key) (p : Plain) (did : Did Plain) → SoundPlain T Q p → key T Q k p ≡ done did
    → SoundPlain T Q did.state
key-keeps T Q k p did sound e = law.key-keeps T Q k p did sound e

-- So every list of keys does, refused ones skipped.
pub keys-keep : (T Q : ℕ) (ks : List Key) (p : Plain) → SoundPlain T Q p → SoundPlain T Q (keys T Q ks p)
unfolding keys
keys-keep T Q [] p sound = sound
keys-keep T Q (k ∷ ks) p sound = keys-keep T Q ks (after p (key T Q k p)) (go (key T Q k p) refl)
  where
    go : (outcome : Outcome) → key T Q k p ≡ outcome → SoundPlain T Q (after p outcome)
    go (refused n) e = sound
    go (done did) e = key-keeps T Q k p did sound e
