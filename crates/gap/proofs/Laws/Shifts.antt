-- Laws of a run that goes from one place to another: it is copied there, and then what it left behind is cleared.
use mathlib.Core.Path.{◌≡◌, sym, ap, ◌∙◌}
use mathlib.Core.List.{List, ◌++◌, append_assoc}
use Prim.Native.Nat.{ℕ, ◌+◌, ◌-◌, ◌≤◌, ◌<◌, min}
use native.Mathlib.Omega.{arith}
use lib.Seq.{paste, drop-drop}
use lib.ListN.{length, take, drop, take-append-drop}
use Rattle.gap.specs.Rules.Sequence.{part, patch, zeros}
use Rattle.gap.proofs.Laws.Sequence.{length_part, length-zeros}
use Rattle.gap.proofs.Laws.Runs.{length-patch, zeros-both}
use Rattle.gap.proofs.Laws.Patches.{apart, patch-behind, patch-before, covered}

-- A run of k bytes goes from one place to another, and zeros take its old place.
abbrev pub carried : ℕ → ℕ → ℕ → List ℕ → List ℕ
carried from to k s = patch to (part from k s) (patch from (zeros k) s)

-- The same without the zeros: its old place keeps what the new one does not cover.
abbrev slid : ℕ → ℕ → ℕ → List ℕ → List ℕ
slid from to k s = patch to (part from k s) s

-- That is how `copy_within` copies a run.
pub slides : (s : List ℕ) (from to d : ℕ) → (from + d ≤ length s) × (to + d ≤ length s)
    → paste s to (drop from s) (from + d - from) ≡ slid from to d s
unfolding part patch
slides s from to d fits =
    let size : from + d - from ≡ d = omega arith in
    rw (size, drop-drop, length_part from d s fits.0) (append_assoc (take to s) (take d (drop from s)) (drop (to + d) s))

-- A run that is carried to where it stands changes nothing: the zeros are covered, and the run is put over itself.
part-kept : (s : List ℕ) (a k : ℕ) → a + k ≤ length s → patch a (part a k s) s ≡ s
unfolding part patch
part-kept s a k fits = rw (length_part a k s fits, take-append-drop k (drop a s)) (take-append-drop a s)

pub stays : (s : List ℕ) (from to d : ℕ) → from + d ≤ length s → to ≡ from → s ≡ carried from to d s
stays s from to d fits here =
    let run : length (part from d s) ≡ d = length_part from d s fits in
    let cleared : length (zeros d) ≡ d = length-zeros d in
    rw here
    (sym (covered (zeros d) (part from d s) s from from (omega arith) (omega arith) (λ h. (omega arith, omega arith)) ∙ part-kept s from d fits))

zeros-two : (n m k : ℕ) → n + m ≡ k → zeros k ≡ zeros n ++ zeros m
zeros-two n m k e = sym (zeros-both n m ∙ ap zeros e)

-- A run of d bytes slid, and then its old place was cleared where the new one leaves it bare, at its front or at its end: the run is
-- carried. For zeros in the rest of the old place are covered, and those in the bare bytes stand apart from the new place.
module _ (s : List ℕ) (from to d bare : ℕ) (fits : (from + d ≤ length s) × (to + d ≤ length s)) where
  abbrev run : List ℕ
  run = part from d s

  abbrev rest : ℕ
  rest = d - bare

  lengths : (length run ≡ d) × (length (zeros bare) ≡ bare) × (length (zeros rest) ≡ rest)
  lengths = (length_part from d s fits.0, length-zeros bare, length-zeros rest)

  pub front-cleared : {moved t : List ℕ} → from < to → bare ≡ min d (to - from)
      → moved ≡ slid from to d s → t ≡ patch from (zeros bare) moved → t ≡ carried from to d s
  front-cleared way least slides clears =
      let (all, first, second) = lengths in
      let cleared : List ℕ = patch from (zeros bare) s in
      let same : length cleared ≡ length s = length-patch from (zeros bare) s (omega arith) in
      rw (
        clears,
        slides,
        zeros-two bare rest d (omega arith),
        ← patch-behind (zeros bare) (zeros rest) s from bare first (omega arith),
        covered (zeros rest) run cleared (from + bare) to (omega arith) (omega arith) (λ h. (omega arith, omega arith)),
      ) (apart (zeros bare) s from to (omega arith) (omega arith) run)

  pub end-cleared : {moved t : List ℕ} → to ≤ from → bare ≡ min d (from - to)
      → moved ≡ slid from to d s → t ≡ patch (from + rest) (zeros bare) moved → t ≡ carried from to d s
  end-cleared way least slides clears =
      let (all, second, first) = lengths in
      let cleared : List ℕ = patch (from + rest) (zeros bare) s in
      let same : length cleared ≡ length s = length-patch (from + rest) (zeros bare) s (omega arith) in
      rw (
        clears,
        slides,
        zeros-two rest bare d (omega arith),
        ← patch-before (zeros rest) (zeros bare) s from rest first (omega arith),
        covered (zeros rest) run cleared from to (omega arith) (omega arith) (λ h. (omega arith, omega arith)),
      ) (sym (apart run s to (from + rest) (omega arith) (omega arith) (zeros bare)))
