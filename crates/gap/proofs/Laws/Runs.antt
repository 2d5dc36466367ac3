-- Laws of runs of bytes: `part`, `patch` and `zeros`, over any length.
use mathlib.Core.Path.{◌≡◌, refl, sym, ap, ◌∙◌}
use mathlib.Core.List.{List, [], ◌∷◌, ◌++◌, append-nil}
use Prim.Native.Nat.{ℕ, ◌+◌, ◌-◌, ◌≤◌, ◌<◌}
use native.Mathlib.Numerals.{add-one}
use native.Mathlib.Omega.{arith}
use lib.ListN.{length, take, drop, set, get_or, length-set, length-append, length-drop, drop_of_length-le, take-append-drop}
use lib.ListN.{replicate, length-replicate, replicate-append-replicate}
use lib.Seq.{length-take-le, take_all, take_at, take-suc, take-length, take-append_seam}
use lib.Seq.{drop_at, drop-cons, drop-drop, append_snoc, set_at, set_split}
use borrow.Rule.Slice.PartMut.{mid_of, put_mid}
use Rattle.gap.specs.Rules.Sequence.{part, patch, zeros}
use Rattle.gap.proofs.Laws.Sequence.{length_part, length-zeros}

-- The first i bytes of a run were copied to the front of a store that was `old` and now is `s`.
pub record Copied (run old : List ℕ) (i : ℕ) (s : List ℕ) : Type 0 where
  pub fits : length run ≤ length old
  pub within : i ≤ length run
  pub bytes : s ≡ take i run ++ drop i old
  pub same : length s ≡ length old

pub copied_none : (run old : List ℕ) → length run ≤ length old → Copied run old 0 old
copied_none run old fits = record { fits = fits; within = omega arith; bytes = refl; same = refl }

pub copied_more : {run old s : List ℕ} {i b : ℕ} → Copied run old i s → i < length run → b ≡ get_or run i 0
    → Copied run old (i + 1) (set s i b)
copied_more {run} {old} {s} {i} {b} h more e = record {
  fits = h.fits;
  within = omega arith;
  bytes =
      let inside : i < length old = omega arith in
      let size : length (take i run) ≡ i = length-take-le i run h.within in
      rw (h.bytes, e, add-one, drop-cons old i 0, set_at (take i run) _ _ _ i size, take-suc run i 0, append_snoc);
  same = length-set s i b ∙ h.same;
}

pub copied_all : {run old s : List ℕ} {i : ℕ} → Copied run old i s → length run ≤ i → s ≡ run ++ drop (length run) old
copied_all {run} {old} {s} {i} h done =
    let end : i ≡ length run = omega arith in
    h.bytes ∙ ap (λ k. take k run ++ drop k old) end ∙ ap (λ t. t ++ drop (length run) old) (take-length run)

pub zeros-both : (n m : ℕ) → zeros n ++ zeros m ≡ zeros (n + m)
unfolding zeros
zeros-both n m = replicate-append-replicate n m 0

-- A patch in a store that is long enough keeps its length.
pub length-patch : (a : ℕ) (run s : List ℕ) → a + length run ≤ length s → length (patch a run s) ≡ length s
unfolding patch
length-patch a run s fits =
    let before : length (take a s) ≡ a = length-take-le a s (omega arith) in
    simp (length-append, before, length-drop) (omega arith)

-- A patch with nothing changes nothing, and one byte stored is a patch.
pub patch-none : (s : List ℕ) (a : ℕ) → patch a [] s ≡ s
unfolding patch
patch-none s a = take-append-drop a s

pub patch-one : (s : List ℕ) (a b : ℕ) → a < length s → set s a b ≡ patch a (b ∷ []) s
unfolding patch
patch-one s a b h = rw (set_split s a b, drop-drop, add-one)

-- In a store of three pieces, the middle one stands behind the first, and a run of its length takes its place.
pub part-middle : (x y z : List ℕ) (a k : ℕ) → length x ≡ a → length y ≡ k → part a k (x ++ (y ++ z)) ≡ y
unfolding part
part-middle x y z a k e f = rw (drop_at x (y ++ z) a e) (take_at y z k f)

pub patch-middle : (x y z run : List ℕ) (a : ℕ) → length x ≡ a → length y ≡ length run → patch a run (x ++ (y ++ z)) ≡ x ++ (run ++ z)
unfolding patch
patch-middle x y z run a e f = rw (take_at x (y ++ z) a e, drop_at x (y ++ z) a e, drop_at y z (length run) f)

-- A part of a store is lent and comes back: `mid_of a k s` are the k bytes from a on, and `put_mid a k s t` is the store with t in their
-- place, as the checker has them. If as many come back, that is a patch.
pub part-back : (a k : ℕ) (s t : List ℕ) → length t ≡ k → put_mid a k s t ≡ patch a t s
unfolding patch
part-back a k s t e = ap (λ n. take a s ++ (t ++ drop n (drop a s))) (sym e)

-- The part from a on is the rest of the store.
abbrev pub tail_of : ℕ → List ℕ → List ℕ
tail_of a s = mid_of a (length s - a) s

abbrev pub put_tail : ℕ → List ℕ → List ℕ → List ℕ
put_tail a s t = put_mid a (length s - a) s t

module _ (a : ℕ) (s : List ℕ) where
  pub tail-lent : tail_of a s ≡ drop a s
  tail-lent = take_all (length s - a) (drop a s) (rw length-drop (omega arith))

  tail-back : (t : List ℕ) → put_tail a s t ≡ take a s ++ t
  tail-back t = rw (drop_of_length-le (drop a s) {i = length s - a} (rw length-drop (omega arith)), append-nil)

  pub tail-copied : (run t : List ℕ) → t ≡ run ++ drop (length run) (tail_of a s) → put_tail a s t ≡ patch a run s
  unfolding patch
  tail-copied run t e = tail-back t ∙ rw (e, tail-lent)

-- A part from a up to a + d.
module _ (a d : ℕ) (s : List ℕ) (fits : a + d ≤ length s) where
  pub part-lent : mid_of a (a + d - a) s ≡ part a d s
  unfolding part
  part-lent = let e : a + d - a ≡ d = omega arith in rw e

  pub part_filled : (b : ℕ) (t : List ℕ) → t ≡ replicate (length (mid_of a (a + d - a) s)) b → put_mid a (a + d - a) s t ≡ patch a (replicate d b) s
  part_filled b t e =
      let same : t ≡ replicate d b = e ∙ ap (λ n. replicate n b) (ap length part-lent ∙ length_part a d s fits) in
      rw same (part-back a (a + d - a) s (replicate d b) (length-replicate d b ∙ omega arith))

  -- A part that a pair store holds alone.
  pub part_held : (n : ℕ) → mid_of a (a + d - a) s ++ zeros (n - length (mid_of a (a + d - a) s)) ≡ part a d s ++ zeros (n - d)
  part_held n = rw (part-lent, length_part a d s fits)

-- A patch that reaches to the end of the store.
patch-end : (a : ℕ) (run s : List ℕ) → a + length run ≡ length s → patch a run s ≡ take a s ++ run
unfolding patch
patch-end a run s e = rw (drop_of_length-le (drop a s) {i = length run} (rw length-drop (omega arith)), append-nil)

-- The store is cleared from a on; and if a run was copied to its front before, it holds that run alone.
pub cleared-from : (a : ℕ) (s : List ℕ) → a ≤ length s → patch a (zeros (length s - a)) s ≡ take a s ++ zeros (length s - a)
cleared-from a s fits = patch-end a (zeros (length s - a)) s (rw length-zeros (omega arith))

pub held : (run old s t : List ℕ) → length s ≡ length old → s ≡ run ++ drop (length run) old
    → t ≡ take (length run) s ++ zeros (length s - length run) → t ≡ run ++ zeros (length old - length run)
held run old s t same e f = f ∙ rw (same, e, take-append_seam)
