-- The tests of whole stores, as code runs them: first whether the lengths fit, then part by part.
use mathlib.Core.Path.{◌≡◌, refl, sym, ap, ◌∙◌}
use mathlib.Core.Bool.{Bool, false, ◌&&◌, and_assoc}
use mathlib.Core.List.{List, [], ◌∷◌, ◌++◌, append-nil}
use Prim.Native.Nat.{ℕ, ◌+◌, ◌-◌, ◌≤◌, ◌<◌}
use native.Mathlib.Omega.{arith}
use lib.ListN.{length, take, drop}
use lib.Seq.{take-add, drop-length}
use borrow.Author.Tests.{le-leb, lt-leb}
use borrow.Author.Rules.{part_to_end}
use Rattle.gap.specs.Rules.Sequence.{every, part}
use Rattle.gap.specs.Rules.Layout.{allowed, free, ungap, unpair, sound_gap, sound_pair}

every_append : (test : ℕ → Bool) (s t : List ℕ) → every test (s ++ t) ≡ (every test s && every test t)
unfolding every
every_append test [] t = refl
every_append test (b ∷ s) t = ap (λ rest. test b && rest) (every_append test s t) ∙ sym (and_assoc (test b) _ _)

-- The tests of the parts that the code lends: the bytes in front of a, those from b on, and those between.
pub parts : (a b : ℕ) (s : List ℕ) {front behind between : Bool} → front ≡ every allowed (take a s)
    → behind ≡ every allowed (take (length s - b) (drop b s)) → between ≡ every free (take (b - a) (drop a s))
    → (front && behind && between) ≡ (every allowed (take a s ++ drop b s) && every free (part a (b - a) s))
unfolding part
parts a b s p q e = rw (p, q, e, part_to_end, every_append)

module _ (l r : ℕ) (s : List ℕ) where
  -- Lengths that do not fit fail both tests.
  module _ (long : length s < l + r) where
    pub long-gap : false ≡ sound_gap l r s
    unfolding sound_gap
    long-gap = rw lt-leb

    pub long-pair : false ≡ sound_pair l r s
    unfolding sound_pair
    long-pair = rw lt-leb

  -- Where they fit, both tests are those parts; behind the texts of a pair store nothing follows the free bytes.
  module _ (fits : l + r ≤ length s) {sound : Bool} where
    pub gap_parts : sound ≡ (every allowed (take l s ++ drop (length s - r) s) && every free (part l (length s - r - l) s))
        → sound ≡ sound_gap l r s
    unfolding sound_gap ungap
    gap_parts e = let middle : length s - r - l ≡ length s - (l + r) = omega arith in e ∙ rw (middle, le-leb)

    pub pair_parts : sound ≡ (every allowed (take (l + r) s ++ drop (length s) s) && every free (part (l + r) (length s - (l + r)) s))
        → sound ≡ sound_pair l r s
    unfolding sound_pair unpair part
    pair_parts e = e ∙ rw (le-leb, drop-length, append-nil, part_to_end, take-add)
