-- Laws of parts and patches of a store: those that stand apart, side by side, or one over the other.
use mathlib.Core.Path.{◌≡◌, sym, ap, ◌∙◌}
use mathlib.Core.List.{List, [], ◌∷◌, ◌++◌, append_assoc}
use Prim.Native.Nat.{ℕ, ◌+◌, ◌≤◌, ◌<◌}
use native.Mathlib.Omega.{arith}
use lib.ListN.{length, take, drop, length-append, length-drop, take-append-drop}
use lib.Seq.{length-take-le, take-add, take_at, take-append-le, drop_at, drop-drop, drop-append-le}
use Rattle.gap.specs.Rules.Sequence.{part, patch}
use Rattle.gap.proofs.Laws.Runs.{length-patch, patch-none}

-- Two parts side by side are one part.
pub part-both : (a m n : ℕ) (s : List ℕ) → part a m s ++ part (a + m) n s ≡ part a (m + n) s
unfolding part
part-both a m n s = rw (take-add, drop-drop)

-- Of two texts joined, a part or a patch of the first, and a patch at the front of the second.
module _ (p q : List ℕ) (a : ℕ) where
  part-first : (k : ℕ) → a + k ≤ length p → part a k (p ++ q) ≡ part a k p
  unfolding part
  part-first k fits =
      let inside : a ≤ length p = omega arith in
      let behind : k ≤ length (drop a p) = rw length-drop (omega arith) in
      rw (drop-append-le a p q, take-append-le k (drop a p) q)

  patch-first : (run : List ℕ) → a + length run ≤ length p → patch a run (p ++ q) ≡ patch a run p ++ q
  unfolding patch
  patch-first run fits =
      let inside : a ≤ length p = omega arith in
      let behind : length run ≤ length (drop a p) = rw length-drop (omega arith) in
      rw (take-append-le a p q, drop-append-le a p q, drop-append-le (length run) (drop a p) q) (simp append_assoc)

  patch-second : (run : List ℕ) → length p ≡ a → patch a run (p ++ q) ≡ p ++ (run ++ drop (length run) q)
  unfolding patch
  patch-second run e = rw (take_at p q a e, drop_at p q a e)

-- What stands before a patch stays as it is.
pub part-before : (run s : List ℕ) (a b k : ℕ) → a ≤ length s → b + k ≤ a → part b k (patch a run s) ≡ part b k s
unfolding patch
part-before run s a b k fits order =
    let inside : b + k ≤ length (take a s) = rw (length-take-le a s fits) order in
    part-first (take a s) _ b k inside ∙ sym (part-first (take a s) (drop a s) b k inside) ∙ ap (part b k) (take-append-drop a s)

-- What stands behind a patch stays as it is, and may be patched before or after it.
module _ (run s : List ℕ) (a b : ℕ) (order : a + length run ≤ b) (fits : b ≤ length s) where
  abbrev front : List ℕ
  front = patch a run (take b s)

  inside : a + length run ≤ length (take b s)
  inside = rw (length-take-le b s fits) order

  size : length front ≡ b
  size = length-patch a run (take b s) inside ∙ length-take-le b s fits

  whole : patch a run s ≡ front ++ drop b s
  whole = rw take-append-drop at (patch-first (take b s) (drop b s) a run inside)

  drop-behind : drop b (patch a run s) ≡ drop b s
  drop-behind = rw whole (drop_at front (drop b s) b size)

  pub part-behind : (k : ℕ) → part b k (patch a run s) ≡ part b k s
  unfolding part
  part-behind k = ap (take k) drop-behind

  pub apart : (v : List ℕ) → patch a run (patch b v s) ≡ patch b v (patch a run s)
  unfolding patch
  apart v = patch-first (take b s) _ a run inside ∙ sym (ap (patch b v) whole ∙ patch-second front (drop b s) b v size)

-- Two runs side by side are one run, whichever is put first.
module _ (u v s : List ℕ) (a k : ℕ) (size : length u ≡ k) (fits : a + k ≤ length s) where
  pub patch-behind : patch (a + k) v (patch a u s) ≡ patch a (u ++ v) s
  unfolding patch
  patch-behind =
      let front : length (take a s ++ u) ≡ a + k = rw (length-append, length-take-le a s (omega arith), size) in
      ap (patch (a + k) v) (sym (append_assoc (take a s) u _))
      ∙ patch-second (take a s ++ u) _ (a + k) v front
      ∙ rw (length-append u v, ← drop-drop (length v) (length u) (drop a s)) (simp append_assoc)

  pub patch-before : patch a u (patch (a + k) v s) ≡ patch a (u ++ v) s
  patch-before = apart u s a (a + k) (omega arith) fits v ∙ patch-behind

-- A patch makes no difference if a later one covers it, or if it is empty.
patch-over : (run s t : List ℕ) (a : ℕ) → part 0 a s ≡ part 0 a t → drop (a + length run) s ≡ drop (a + length run) t
    → patch a run s ≡ patch a run t
unfolding part patch
patch-over run s t a before behind = rw (drop-drop (length run) a s, drop-drop (length run) a t, before, behind)

pub covered : (u run s : List ℕ) (a to : ℕ) → a + length u ≤ length s → to + length run ≤ length s
    → (0 < length u → (to ≤ a) × (a + length u ≤ to + length run)) → patch to run (patch a u s) ≡ patch to run s
covered [] run s a to source target h = ap (patch to run) (patch-none s a)
covered (b ∷ u) run s a to source target h =
    let (before, behind) = h (omega arith) in
    patch-over run _ s to (part-before (b ∷ u) s a 0 to (omega arith) (omega arith)) (drop-behind (b ∷ u) s a _ behind target)
