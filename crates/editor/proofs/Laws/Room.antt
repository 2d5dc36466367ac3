-- Room: when the finished texts exceed their limits, after an edit of a side and after a REPLACE.
use mathlib.Core.Path.{◌≡◌, refl}
use mathlib.Core.Logic.{◌⊎◌, inl, inr, ⊎_elim, ⊎_map, ◌↔◌}
use mathlib.Core.Bool.{Bool, true, false, ◌&&◌, and-false}
use Prim.Native.Nat.{ℕ, ◌+◌, ◌-◌, ◌<◌}
use native.Mathlib.Omega.{arith}
use borrow.Author.Tests.{leb-false, lt-leb}
use lib.Dec.{leb}
use lib.ListN.{length, length-append}
use Rattle.gap.specs.Rules.Doc.{Doc, content, splice}
use Rattle.gap.proofs.Laws.Tests.{clash}
use Rattle.editor.specs.Words.{Mode, Main, Quoted}
use Rattle.editor.specs.Rules.Plain.{Side, Plain, Did}
use Rattle.editor.specs.Rules.Keys.{Exceeds}
use Rattle.editor.specs.Rules.Keys.{side_of, with_side, on_side}
use Rattle.editor.specs.Rules.Keys.{matches, exchanged, substituted, fits}
use Rattle.gap.proofs.Laws.Compared.{begins-fits}
use Rattle.gap.proofs.Laws.Holdable.{length-splice}
use Rattle.editor.specs.Rules.Bytes.{SoundTexts}
use Rattle.editor.proofs.Laws.States.{limit, sound-fits}

-- A test that fails exactly in one case passes exactly in the other.
pub holds : {A : Type 0} (t : Bool) → (t ≡ false) ↔ A → (t ≡ true) ↔ (¬ A)
holds true fails = (λ e a. clash refl (fails.1 a), λ never. refl)
holds false fails = (λ e. clash e refl, λ never. absurd (never (fails.0 refl)))

-- One of two tests fails: one of two lengths is above its limit.
one-fails : (a b : Bool) → (a && b) ≡ false → (a ≡ false) ⊎ (b ≡ false)
one-fails true b e = inr e
one-fails false b e = inl refl

one-above : (n T m Q : ℕ) → ((leb n T && leb m Q) ≡ false) ↔ ((T < n) ⊎ (Q < m))
one-above n T m Q = (
  λ e. ⊎_map (leb-false n T) (leb-false m Q) (one-fails (leb n T) (leb m Q) e),
  ⊎_elim (λ over. rw (lt-leb n T over)) (λ over. rw (lt-leb m Q over) (and-false (leb n T))),
)

pub fits_not : (T Q : ℕ) (p : Plain) → (fits T Q p ≡ false) ↔ Exceeds T Q p
unfolding fits
fits_not T Q p = one-above (length (content p.main.text)) T (length (content p.quoted.text)) Q

pub fits-within : (T Q : ℕ) (p : Plain) → (fits T Q p ≡ true) ↔ (¬ Exceeds T Q p)
fits-within T Q p = holds (fits T Q p) (fits_not T Q p)

-- In a session nothing exceeds.
pub keeps-within : (T Q : ℕ) (p : Plain) → SoundTexts T Q p → ¬ Exceeds T Q p
keeps-within T Q p sound = (fits-within T Q p).0 (sound-fits T Q p sound)

-- After an edit of the mode's side only that side can exceed.
pub on-side-exceeds : (T Q : ℕ) (edit : Side → Did Side) (p : Plain) → SoundTexts T Q p
    → Exceeds T Q (on_side edit p).state ↔ (limit T Q p.mode < length (content (edit (side_of p.mode p)).state.text))
unfolding on_side
on-side-exceeds T Q edit p sound = go p.mode
  where
    go : (mode : Mode)
        → Exceeds T Q (with_side mode (edit (side_of mode p)).state p)
        ↔ (limit T Q mode < length (content (edit (side_of mode p)).state.text))
    go Main = (⊎_elim (λ over. over) (λ over. absurd (keeps-within T Q p sound (inr over))), inl)
    go Quoted = (⊎_elim (λ over. absurd (keeps-within T Q p sound (inl over))) (λ over. over), inr)

-- What is put around the cursor adds its length.
pub length-put : (x d : Doc) → length (content (splice 0 0 x d)) ≡ length (content d) + length (content x)
length-put x d = omega (arith, length-splice 0 0 x d, length-append d.l d.r, length-append x.l x.r)

-- What REPLACE leads to: the pattern no longer counts.
length_exchanged : (p : Plain) → matches p.pattern p.main.text ≡ true
    → length (content (exchanged p).text) ≡ length (content p.main.text) - length p.pattern + length (content p.replacement)
unfolding exchanged
length_exchanged p match =
    let d = p.main.text in
    let x = p.replacement in
    let short = begins-fits p.pattern d.r match in
    omega (arith, length-splice 0 (length p.pattern) x d, length-append d.l d.r, length-append x.l x.r)

-- Only the document can exceed then.
pub substituted-exceeds : (T Q : ℕ) (p : Plain) → SoundTexts T Q p → matches p.pattern p.main.text ≡ true
    → Exceeds T Q (substituted p).state
    ↔ (T < length (content p.main.text) - length p.pattern + length (content p.replacement))
unfolding substituted
substituted-exceeds T Q p sound match =
    rw (match, ← length_exchanged p match) (⊎_elim (λ over. over) (λ over. absurd (keeps-within T Q p sound (inr over))), inl)
