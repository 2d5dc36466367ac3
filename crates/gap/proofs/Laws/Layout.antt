-- Laws of gap stores and pair stores, over any length: what is encoded is decoded again, and a sound store is an encoding.
use mathlib.Core.Path.{◌≡◌, refl, sym, ap, ◌∙◌}
use mathlib.Core.Bool.{Bool, true, ◌&&◌}
use mathlib.Core.List.{List, ◌++◌}
use Prim.Native.Nat.{ℕ, ◌+◌, ◌-◌, ◌≤◌, ◌<◌}
use native.Mathlib.Omega.{arith}
use lib.Dec.{leb}
use lib.ListN.{length, take, drop, length-append, length-drop, take-append-drop}
use lib.Seq.{length-take-le, take-add, take-append_seam, take_at, drop_at, drop-append-le, drop-append_seam, drop-append-add, drop-drop}
use borrow.Author.Tests.{leb-true, le-leb}
use Rattle.gap.specs.Rules.Sequence.{every, part, zeros}
use Rattle.gap.specs.Rules.Doc.{Doc, content}
use Rattle.gap.specs.Rules.Layout.{allowed, free, spare, gapped, paired, ungap, unpair, sound_gap, sound_pair, IsGap, IsPair, Holdable}
use Rattle.gap.proofs.Laws.Tests.{and_left, and_right, and_both}
use Rattle.gap.proofs.Laws.Sequence.{length_part, length-zeros, zeros-free, free-zeros}
use Rattle.gap.proofs.Laws.Runs.{tail_of, tail-lent}

-- Both stores are three pieces joined. In a gap store the middle one is free, in a pair store the last one.
module _ (x y z : List ℕ) (n : ℕ) where
  middle : length y ≡ n → part (length x) n (x ++ (y ++ z)) ≡ y
  unfolding part
  middle e = rw drop-append_seam (take_at y z n e)

  end : length x + length y ≡ n → drop n (x ++ (y ++ z)) ≡ z
  end e = rw (← e, drop-append-add, drop-append_seam)

module _ (size : ℕ) (d : Doc) (fits : length d.l + length d.r ≤ size) where
  pub length-gapped : length (gapped size d) ≡ size
  unfolding gapped
  length-gapped = simp (length-append, length-zeros) (omega arith)

  pub length-paired : length (paired size d) ≡ size
  unfolding paired
  length-paired = simp (length-append, length-zeros) (omega arith)

  free-gapped : part (length d.l) (length (gapped size d) - (length d.l + length d.r)) (gapped size d) ≡ zeros (spare size d)
  unfolding gapped
  free-gapped = middle d.l (zeros (spare size d)) d.r _ (rw (length-gapped, length-zeros))

  free-paired : drop (length d.l + length d.r) (paired size d) ≡ zeros (spare size d)
  unfolding paired
  free-paired = end d.l d.r (zeros (spare size d)) _ refl

  pub ungap-gapped : ungap (length d.l) (length d.r) (gapped size d) ≡ d
  unfolding ungap gapped
  ungap-gapped = λ i. record {
    l = take-append_seam d.l (zeros (spare size d) ++ d.r) i;
    r = end d.l (zeros (spare size d)) d.r (length (gapped size d) - length d.r)
        (simp (length-append, length-zeros) (omega arith)) i;
  }

  pub unpair-paired : unpair (length d.l) (length d.r) (paired size d) ≡ d
  unfolding unpair paired part
  unpair-paired = λ i. record {
    l = take-append_seam d.l (d.r ++ zeros (spare size d)) i;
    r = middle d.l d.r (zeros (spare size d)) _ refl i;
  }

-- What both tests ask: the lengths fit the store, the bytes held are allowed, the rest is free.
abbrev sound : ℕ → ℕ → ℕ → Doc → List ℕ → Bool
sound size l r d rest = leb (l + r) size && (every allowed (content d) && every free rest)

module _ (size : ℕ) (d : Doc) (h : Holdable size d) where
  passes : {stored : ℕ} {held : Doc} {rest : List ℕ} → stored ≡ size → held ≡ d → rest ≡ zeros (spare size d)
      → sound stored (length d.l) (length d.r) held rest ≡ true
  passes e f g = rw (e, f, g) (and_both (le-leb _ _ h.fits) (and_both h.bytes (zeros-free _)))

  pub gap-sound : sound_gap (length d.l) (length d.r) (gapped size d) ≡ true
  unfolding sound_gap
  gap-sound = passes (length-gapped size d h.fits) (ungap-gapped size d h.fits) (free-gapped size d h.fits)

  pub pair-sound : sound_pair (length d.l) (length d.r) (paired size d) ≡ true
  unfolding sound_pair
  pair-sound = passes (length-paired size d h.fits) (unpair-paired size d h.fits) (free-paired size d h.fits)

-- A sound store: what it holds fits with the lengths given, and it is the encoding of that.
pub record Encodes (size l r : ℕ) (d : Doc) : Type 0 where
  pub left : length d.l ≡ l
  pub right : length d.r ≡ r
  pub held : Holdable size d

-- What a passed test tells, as long as the texts held and the rest have their lengths in a store that the lengths fit.
told : (size l r : ℕ) (d : Doc) (rest : List ℕ) → sound size l r d rest ≡ true
    → (l + r ≤ size → (length d.l ≡ l) × (length d.r ≡ r) × (length rest ≡ size - (l + r)))
    → Encodes size l r d × (zeros (spare size d) ≡ rest)
told size l r d rest passed lengths =
    let fits : l + r ≤ size = leb-true (l + r) size (and_left (leb (l + r) size) _ passed) in
    let bytes = and_right (leb (l + r) size) _ passed in
    let (left, right, others) = lengths fits in
    let held : Holdable size d = record { fits = rw (left, right) fits; bytes = and_left (every allowed (content d)) _ bytes } in
    let same : spare size d ≡ length rest = rw (left, right, others) in (
      record { left = left; right = right; held = held },
      ap zeros same ∙ sym (free-zeros rest (and_right (every allowed (content d)) _ bytes)),
    )

-- A store, cut before and behind a part of it.
pub cut : (a k : ℕ) (s : List ℕ) → take a s ++ (part a k s ++ drop (a + k) s) ≡ s
unfolding part
cut a k s = rw (← drop-drop, take-append-drop, take-append-drop)

module _ (l r : ℕ) (s : List ℕ) where
  pub sound-gap : sound_gap l r s ≡ true → Encodes (length s) l r (ungap l r s) × (gapped (length s) (ungap l r s) ≡ s)
  unfolding sound_gap gapped ungap
  sound-gap e =
      let between : ℕ = length s - (l + r) in
      let t = told (length s) l r (ungap l r s) (part l between s) e
      (λ fits. (length-take-le l s (omega arith), rw length-drop (omega arith), length_part l between s (omega arith))) in
      let behind : length s - r ≡ l + between = omega arith in
      (t.0, rw (t.1, behind) (cut l between s))

  pub sound-pair : sound_pair l r s ≡ true → Encodes (length s) l r (unpair l r s) × (paired (length s) (unpair l r s) ≡ s)
  unfolding sound_pair paired unpair part
  sound-pair e =
      let t = told (length s) l r (unpair l r s) (drop (l + r) s) e
      (λ fits. (length-take-le l s (omega arith), length_part l r s fits, length-drop (l + r) s)) in
      (t.0, rw t.1 (cut l r s))

-- Sound stores, as the routines on them ask for.
module _ (l r : ℕ) (s : List ℕ) where
  pub is-gap : sound_gap l r s ≡ true → IsGap l r s
  is-gap e =
      let (encodes, holds) = sound-gap l r s e in
      record { fits = omega (arith, encodes.left, encodes.right, encodes.held.fits); holds = holds }

  pub is-pair : sound_pair l r s ≡ true → IsPair l r s
  is-pair e =
      let (encodes, holds) = sound-pair l r s e in
      record { fits = omega (arith, encodes.left, encodes.right, encodes.held.fits); holds = holds }

pub drop-taken : (a k : ℕ) (s : List ℕ) → a + k ≤ length s → drop a (take (a + k) s) ≡ take k (drop a s)
drop-taken a k s fits = rw take-add (drop_at (take a s) _ a (length-take-le a s (omega arith)))

-- What a gap store of texts of l and r bytes holds: their lengths.
module _ (l r : ℕ) (s : List ℕ) (fits : l + r ≤ length s) where
  pub length-left : length (ungap l r s).l ≡ l
  unfolding ungap
  length-left = length-take-le l s (omega arith)

  pub length-right : length (ungap l r s).r ≡ r
  unfolding ungap
  length-right = rw length-drop (omega arith)

-- What follows a place of a document: a part of what stands right of the cursor, or a part of what stands left of it and then all that stands
-- right of it.
module _ (d : Doc) (at : ℕ) where
  pub drop-behind : length d.l ≤ at → drop (at - length d.l) d.r ≡ drop at (content d)
  drop-behind beyond =
      let there : at ≡ length d.l + (at - length d.l) = omega arith in
      sym (ap (λ n. drop n (content d)) there ∙ drop-append-add d.l d.r (at - length d.l))

  pub drop-across : at < length d.l → tail_of at d.l ++ d.r ≡ drop at (content d)
  drop-across before = ap (λ rest. rest ++ d.r) (tail-lent at d.l) ∙ sym (drop-append-le at d.l d.r (omega arith))
