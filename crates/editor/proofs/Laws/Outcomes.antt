-- What a key's outcome tells of the three tests that decide it: a key is refused as KEY, as FULL or as LINE, or done.
use mathlib.Core.Path.{◌≡◌, refl, ◌∙◌}
use mathlib.Core.Logic.{◌⊎◌, inl, inr, ◌↔◌}
use mathlib.Core.Bool.{Bool, true, false, cond}
use Prim.Native.Nat.{ℕ}
use Rattle.gap.proofs.Laws.Tests.{cond-true, cond-false}
use Rattle.editor.specs.Words.{Key}
use Rattle.editor.specs.Rules.Refusals.{KEY, FULL, LINE}
use Rattle.editor.specs.Rules.Plain.{Plain, Did, Outcome, refused, done}
use Rattle.editor.specs.Rules.LongLines.{longest_line, readable}
use Rattle.editor.specs.Rules.Keys.{sound_key, pressed, fits, bounded, key}
use Rattle.editor.specs.Rules.Bytes.{SoundTexts}
use Rattle.editor.proofs.Laws.States.{sound-fits}

-- The outcome by the tests of room and of lines.
module _ (T Q : ℕ) (did : Did Plain) where
  pub bounded-done : fits T Q did.state ≡ true → readable longest_line did.state ≡ true → bounded T Q did ≡ done did
  unfolding bounded
  bounded-done room lines = cond-true _ _ room ∙ cond-true _ _ lines

  pub bounded-full : fits T Q did.state ≡ false → bounded T Q did ≡ refused FULL
  unfolding bounded
  bounded-full room = cond-false _ _ room

  pub bounded-long : fits T Q did.state ≡ true → readable longest_line did.state ≡ false → bounded T Q did ≡ refused LINE
  unfolding bounded
  bounded-long room lines = cond-true _ _ room ∙ cond-false _ _ lines

  -- What leads to a session's texts is done.
  pub bounded-sound : SoundTexts T Q did.state → bounded T Q did ≡ done did
  bounded-sound sound = bounded-done (sound-fits T Q did.state sound) sound.lines

-- The outcome by the tests of soundness, of room and of lines.
abbrev decide : Bool → Bool → Bool → Did Plain → Outcome
decide sound room lines did = cond sound (cond room (cond lines (done did) (refused LINE)) (refused FULL)) (refused KEY)

decide-key : (sound room lines : Bool) (did : Did Plain) → (decide sound room lines did ≡ refused KEY) ↔ (sound ≡ false)
decide-key true true true did = (λ e. cc, λ e. cc)
decide-key true true false did = (λ e. cc, λ e. cc)
decide-key true false lines did = (λ e. cc, λ e. cc)
decide-key false room lines did = (λ e. refl, λ e. refl)

decide-full : (sound room lines : Bool) (did : Did Plain) → (decide sound room lines did ≡ refused FULL) ↔ ((sound ≡ true) × (room ≡ false))
decide-full true true true did = (λ e. (refl, cc), λ (s, r). cc)
decide-full true true false did = (λ e. (refl, cc), λ (s, r). cc)
decide-full true false lines did = (λ e. (refl, refl), λ e. refl)
decide-full false room lines did = (λ e. (cc, cc), λ (s, r). cc)

decide-line : (sound room lines : Bool) (did : Did Plain)
    → (decide sound room lines did ≡ refused LINE) ↔ ((sound ≡ true) × (room ≡ true) × (lines ≡ false))
decide-line true true true did = (λ e. (refl, refl, cc), λ (s, r, l). cc)
decide-line true true false did = (λ e. (refl, refl, refl), λ e. refl)
decide-line true false lines did = (λ e. (refl, cc, cc), λ (s, r, l). cc)
decide-line false room lines did = (λ e. (cc, cc, cc), λ (s, r, l). cc)

decide-done : (sound room lines : Bool) (did other : Did Plain)
    → (decide sound room lines did ≡ done other) ↔ ((sound ≡ true) × (room ≡ true) × (lines ≡ true) × (did ≡ other))
decide-done true true true did other = (λ e. (refl, refl, refl, cc), λ (s, r, l, e). cc)
decide-done true true false did other = (λ e. (refl, refl, cc, cc), λ (s, r, l, e). cc)
decide-done true false lines did other = (λ e. (refl, cc, cc, cc), λ (s, r, l, e). cc)
decide-done false room lines did other = (λ e. (cc, cc, cc, cc), λ (s, r, l, e). cc)

decide-number : (sound room lines : Bool) (did : Did Plain) (n : ℕ) → decide sound room lines did ≡ refused n → (n ≡ KEY) ⊎ ((n ≡ FULL) ⊎ (n ≡ LINE))
decide-number true true true did n e = inl (cc)
decide-number true true false did n e = inr (inr (cc))
decide-number true false lines did n e = inr (inl (cc))
decide-number false room lines did n e = inl (cc)

module _ (T Q : ℕ) (k : Key) (p : Plain) where
  abbrev did : Did Plain
  did = pressed k p

  abbrev lines : Bool
  lines = readable longest_line did.state

  pub key-refused : (key T Q k p ≡ refused KEY) ↔ (sound_key p.mode k ≡ false)
  unfolding key bounded
  key-refused = decide-key (sound_key p.mode k) (fits T Q did.state) lines did

  pub full-refused : (key T Q k p ≡ refused FULL) ↔ ((sound_key p.mode k ≡ true) × (fits T Q (pressed k p).state ≡ false))
  unfolding key bounded
  full-refused = decide-full (sound_key p.mode k) (fits T Q did.state) lines did

  pub line_refused : (key T Q k p ≡ refused LINE)
      ↔ ((sound_key p.mode k ≡ true) × (fits T Q (pressed k p).state ≡ true) × (readable longest_line (pressed k p).state ≡ false))
  unfolding key bounded
  line_refused = decide-line (sound_key p.mode k) (fits T Q did.state) lines did

  pub accepted : (other : Did Plain) → (key T Q k p ≡ done other)
      ↔ ((sound_key p.mode k ≡ true) × (fits T Q (pressed k p).state ≡ true) × (readable longest_line (pressed k p).state ≡ true) × (pressed k p ≡ other))
  unfolding key bounded
  accepted other = decide-done (sound_key p.mode k) (fits T Q did.state) lines did other

  pub refusal-number : (n : ℕ) → key T Q k p ≡ refused n → (n ≡ KEY) ⊎ ((n ≡ FULL) ⊎ (n ≡ LINE))
  unfolding key bounded
  refusal-number n e = decide-number (sound_key p.mode k) (fits T Q did.state) lines did n e
