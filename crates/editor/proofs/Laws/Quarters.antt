-- Laws of stores that are quarters joined: a quarter by its index, a store put together again from its quarters, and the quarters
-- of an encoded side store.
use mathlib.Core.Path.{◌≡◌, refl, sym, ap, ap₂, ◌∙◌, fun_ext}
use mathlib.Core.List.{List, ◌++◌}
use Prim.Native.Nat.{ℕ, zero, suc, ◌+◌, ◌-◌, ◌*◌, ◌≤◌}
use native.Mathlib.Nat.{suc-mul, zero-mul, one-mul, mul-le-mul_right, not-suc-le-zero, le_of_suc-le-suc}
use native.Mathlib.Numerals.{add-one}
use native.Mathlib.Omega.{arith}
use lib.ListN.{length, take, drop, length-append, length-drop, take-append-drop}
use lib.Seq.{length-take-le, take_at, take_all, drop-append-add}
use Rattle.gap.specs.Rules.Sequence.{part}
use Rattle.gap.specs.Rules.Layout.{gapped, paired}
use Rattle.gap.proofs.Laws.Sequence.{length_part}
use Rattle.gap.proofs.Laws.Layout.{length-gapped, length-paired}
use Rattle.editor.specs.Rules.Plain.{Plain}
use Rattle.editor.specs.Rules.Bytes.{quarter_of, alone, stores_of, SoundTexts}

-- Quarters 0 to n, joined.
abbrev pub joined : (ℕ → List ℕ) → ℕ → List ℕ
joined quarters zero = quarters 0
joined quarters (suc n) = quarters 0 ++ joined (λ i. quarters (suc i)) n

module _ (Q : ℕ) where
  -- The quarter of a store that is one, the first quarter of a longer store, and the quarters behind it.
  only : (a : List ℕ) → length a ≡ Q → quarter_of Q 0 a ≡ a
  unfolding part
  only a e = rw zero-mul (take_all Q a (omega arith))

  first : (a rest : List ℕ) → length a ≡ Q → quarter_of Q 0 (a ++ rest) ≡ a
  unfolding part
  first a rest e = rw zero-mul (take_at a rest Q e)

  next : (i : ℕ) (a rest : List ℕ) → length a ≡ Q → quarter_of Q (suc i) (a ++ rest) ≡ quarter_of Q i rest
  unfolding part
  next i a rest e =
      let behind : suc i * Q ≡ length a + i * Q = omega (arith, suc-mul i Q) in
      rw (behind, drop-append-add)

  pub length-quarter : (n i : ℕ) (s : List ℕ) → length s ≡ suc n * Q → i ≤ n → length (quarter_of Q i s) ≡ Q
  length-quarter n i s e h =
      let within : i * Q ≤ n * Q = mul-le-mul_right Q h in
      length_part (i * Q) Q s (omega (arith, suc-mul n Q))

  pub length-joined : (quarters : ℕ → List ℕ) (n : ℕ) → ((i : ℕ) → length (quarters i) ≡ Q) → length (joined quarters n) ≡ suc n * Q
  length-joined quarters zero long = omega (arith, long 0)
  length-joined quarters (suc n) long =
      rw length-append (omega (arith, long 0, length-joined (λ i. quarters (suc i)) n (λ i. long (suc i)), suc-mul (suc n) Q))

  -- Quarter i of quarters joined is the one with that index.
  pub quarter-joined : (quarters : ℕ → List ℕ) (n i : ℕ) → ((i : ℕ) → length (quarters i) ≡ Q) → i ≤ n
      → quarter_of Q i (joined quarters n) ≡ quarters i
  quarter-joined quarters zero zero long h = only (quarters 0) (long 0)
  quarter-joined quarters zero (suc i) long h = absurd (not-suc-le-zero h)
  quarter-joined quarters (suc n) zero long h = first (quarters 0) _ (long 0)
  quarter-joined quarters (suc n) (suc i) long h =
      next i (quarters 0) _ (long 0) ∙ quarter-joined (λ j. quarters (suc j)) n i (λ j. long (suc j)) (le_of_suc-le-suc h)

  -- One quarter more in front.
  more : (n : ℕ) (a rest : List ℕ) → length a ≡ Q → joined (λ i. quarter_of Q i rest) n ≡ rest
      → joined (λ i. quarter_of Q i (a ++ rest)) (suc n) ≡ a ++ rest
  more n a rest e known = ap₂ ◌++◌ (first a rest e) (ap (λ f. joined f n) (fun_ext (λ i. next i a rest e)) ∙ known)

  -- A store of whole quarters is its quarters joined.
  pub joined-quarters : (n : ℕ) (s : List ℕ) → length s ≡ suc n * Q → joined (λ i. quarter_of Q i s) n ≡ s
  joined-quarters zero s e = only s (omega arith)
  joined-quarters (suc n) s e =
      let product = suc-mul (suc n) Q in
      let one : length (take Q s) ≡ Q = length-take-le Q s (omega arith) in
      let others : length (drop Q s) ≡ suc n * Q = rw length-drop (omega arith) in
      simp take-append-drop at (more n (take Q s) (drop Q s) one (joined-quarters n (drop Q s) others))

-- A quarter as code lends it: from its own place to that of the next.
pub lent-first : (Q : ℕ) (s : List ℕ) → take Q s ≡ quarter_of Q 0 s
unfolding part
lent-first Q s = rw zero-mul

lent-quarter : (Q i j : ℕ) (s : List ℕ) → j ≡ suc i * Q → take (j - i * Q) (drop (i * Q) s) ≡ quarter_of Q i s
unfolding part
lent-quarter Q i j s e =
    let size : j - i * Q ≡ Q = omega (arith, suc-mul i Q) in
    ap (λ k. take k (drop (i * Q) s)) size

pub lent-before : (Q i : ℕ) (s : List ℕ) → let end = (i + 1) * Q in take (end - (end - Q)) (drop (end - Q) s) ≡ quarter_of Q i s
lent-before Q i s =
    let end : (i + 1) * Q ≡ suc i * Q = ap (λ n. n * Q) (add-one i) in
    let place : (i + 1) * Q - Q ≡ i * Q = omega (arith, end, suc-mul i Q) in
    (λ k. take ((i + 1) * Q - place k) (drop (place k) s)) ∙ lent-quarter Q i ((i + 1) * Q) s end

pub lent-second : (Q : ℕ) (s : List ℕ) → take (2 * Q - Q) (drop Q s) ≡ quarter_of Q 1 s
lent-second Q s =
    let one : Q ≡ 1 * Q = sym (one-mul Q) in
    (λ i. take (2 * Q - one i) (drop (one i) s)) ∙ lent-quarter Q 1 (2 * Q) s refl

pub lent-third : (Q : ℕ) (s : List ℕ) → take (3 * Q - 2 * Q) (drop (2 * Q) s) ≡ quarter_of Q 2 s
lent-third Q s = lent-quarter Q 2 (3 * Q) s refl

pub lent-fourth : (Q : ℕ) (s : List ℕ) → take (4 * Q - 3 * Q) (drop (3 * Q) s) ≡ quarter_of Q 3 s
lent-fourth Q s = lent-quarter Q 3 (4 * Q) s refl

-- The quarters of an encoded side store: quotation, its recall text, pattern and, from 3 on, replacement.
abbrev pub quarters_of : ℕ → Plain → ℕ → List ℕ
quarters_of Q p zero = gapped Q p.quoted.text
quarters_of Q p (suc zero) = paired Q p.quoted.recall
quarters_of Q p (suc (suc zero)) = paired Q (alone p.pattern)
quarters_of Q p (suc (suc (suc i))) = paired Q p.replacement

module _ (T Q : ℕ) (p : Plain) (s : SoundTexts T Q p) where
  length-quarters : (i : ℕ) → length (quarters_of Q p i) ≡ Q
  length-quarters zero = length-gapped Q p.quoted.text s.quotation.fits
  length-quarters (suc zero) = length-paired Q p.quoted.recall s.its_recall.fits
  length-quarters (suc (suc zero)) = length-paired Q (alone p.pattern) s.pattern.fits
  length-quarters (suc (suc (suc i))) = length-paired Q p.replacement s.replacement.fits

  pub length-side : length (stores_of T Q p).side ≡ 4 * Q
  unfolding stores_of
  length-side = length-joined Q (quarters_of Q p) 3 length-quarters

  pub encoded-quarter : (i : ℕ) → i ≤ 3 → quarter_of Q i (stores_of T Q p).side ≡ quarters_of Q p i
  unfolding stores_of
  encoded-quarter i h = quarter-joined Q (quarters_of Q p) 3 i length-quarters h
