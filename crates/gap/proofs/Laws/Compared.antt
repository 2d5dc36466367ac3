-- Laws of comparing runs of bytes, and of what a text begins with.
use mathlib.Core.Path.{◌≡◌, refl, sym, ap, ap₂, ◌∙◌}
use mathlib.Core.Logic.{⊎_elim}
use mathlib.Core.Bool.{Bool, true, false, ◌&&◌, and-false, and_assoc}
use mathlib.Core.List.{List, [], ◌∷◌, ◌++◌}
use Prim.Native.Nat.{ℕ, ◌+◌, ◌≤◌, ◌<◌}
use native.Mathlib.Omega.{arith}
use lib.Dec.{eqb}
use lib.Pointwise.{pointwise}
use lib.ListN.{length, take, drop, get_or, length-append, get_or-append}
use lib.Seq.{take-append-le, get_or-drop}
use borrow.Author.Tests.{eqb-true, eq-eqb, ne_eqb}
use Rattle.std.specs.List.{starts_with}
use Rattle.gap.specs.Rules.Sequence.{same_bytes, begins, part}
use Rattle.gap.proofs.Laws.Tests.{decided, clash}
use Rattle.gap.proofs.Laws.Sequence.{begins-split, length_part}
use Rattle.gap.proofs.Laws.Runs.{tail_of, tail-lent}
use Rattle.gap.proofs.Laws.Patches.{part-both}

-- `==` of slices compares as the definition does.
pub pointwise_same : (a b : List ℕ) → pointwise eqb a b ≡ same_bytes a b
unfolding same_bytes
pointwise_same [] [] = refl
pointwise_same [] (y ∷ b) = refl
pointwise_same (x ∷ a) [] = refl
pointwise_same (x ∷ a) (y ∷ b) = ap (λ rest. eqb x y && rest) (pointwise_same a b)

-- It does not matter which of the two comes first.
byte-swapped : (a b : ℕ) → eqb a b ≡ eqb b a
byte-swapped a b =
    ⊎_elim (λ e. e ∙ sym (eq-eqb b a (sym (eqb-true a b e))))
    (λ e. e ∙ sym (ne_eqb b a (λ h. clash (eq-eqb a b (sym h)) e)))
    (decided (eqb a b))

pub same_swapped : (a b : List ℕ) → same_bytes a b ≡ same_bytes b a
unfolding same_bytes
same_swapped [] [] = refl
same_swapped [] (y ∷ b) = refl
same_swapped (x ∷ a) [] = refl
same_swapped (x ∷ a) (y ∷ b) = ap₂ ◌&&◌ (byte-swapped x y) (same_swapped a b)

-- Runs put together are the same where their parts are, and so are parts side by side.
pub same-append : (a s b t : List ℕ) → length a ≡ length s → same_bytes (a ++ b) (s ++ t) ≡ (same_bytes a s && same_bytes b t)
unfolding same_bytes
same-append [] [] b t e = refl
same-append [] (y ∷ s) b t e = absurd (omega arith)
same-append (x ∷ a) [] b t e = absurd (omega arith)
same-append (x ∷ a) (y ∷ s) b t e =
    ap (λ rest. eqb x y && rest) (same-append a s b t (omega arith)) ∙ sym (and_assoc (eqb x y) (same_bytes a s) (same_bytes b t))

pub same_parts : (a m n : ℕ) (s t : List ℕ) → a + m ≤ length s → a + m ≤ length t
    → (same_bytes (part a m s) (part a m t) && same_bytes (part (a + m) n s) (part (a + m) n t))
    ≡ same_bytes (part a (m + n) s) (part a (m + n) t)
same_parts a m n s t fits also =
    let as_long = length_part a m s fits ∙ sym (length_part a m t also) in
    rw (← part-both a m n s, ← part-both a m n t)
    (sym (same-append (part a m s) (part a m t) (part (a + m) n s) (part (a + m) n t) as_long))

-- ---- What a text begins with

-- An empty pattern stands everywhere.
pub begins-empty : (pattern text : List ℕ) → length pattern < 1 → begins pattern text ≡ true
unfolding begins same_bytes
begins-empty [] text h = refl
begins-empty (a ∷ pattern) text h = absurd (omega arith)

-- A text shorter than the pattern does not begin with it.
pub begins-short : (pattern text : List ℕ) → length text < length pattern → false ≡ begins pattern text
unfolding begins same_bytes
begins-short [] text h = absurd (omega arith)
begins-short (a ∷ pattern) [] h = refl
begins-short (a ∷ pattern) (b ∷ text) h = sym (and-false (eqb a b)) ∙ ap (λ t. eqb a b && t) (begins-short pattern text (omega arith))

-- So one that begins with it is at least as long.
pub begins-fits : (pattern text : List ℕ) → begins pattern text ≡ true → length pattern ≤ length text
begins-fits pattern text e = omega (arith, simp length-append at (ap length (begins-split pattern text e)))

-- A text that is as long as the pattern decides, whatever follows it.
pub begins-front : (pattern x y : List ℕ) → length pattern ≤ length x → begins pattern x ≡ begins pattern (x ++ y)
unfolding begins
begins-front pattern x y long = ap (same_bytes pattern) (sym (take-append-le (length pattern) x y long))

-- A shorter one is the front of the pattern, and what follows it begins with the rest.
begins-seam : (pattern x y : List ℕ) → length x ≤ length pattern
    → begins pattern (x ++ y) ≡ (same_bytes (take (length x) pattern) x && begins (drop (length x) pattern) y)
unfolding begins same_bytes
begins-seam pattern [] y short = refl
begins-seam [] (b ∷ x) y short = absurd (omega arith)
begins-seam (a ∷ pattern) (b ∷ x) y short =
    ap (λ t. eqb a b && t) (begins-seam pattern x y (omega arith)) ∙ sym (and_assoc (eqb a b) _ _)

module _ (pattern x y : List ℕ) (short : length x < length pattern) {same : Bool}
    (compared : same ≡ same_bytes (take (length x) pattern) x) where
  pub runs_same : same ≡ true → {ok : Bool} → ok ≡ begins (tail_of (length x) pattern) y → ok ≡ begins pattern (x ++ y)
  runs_same e rest = rest ∙ sym (begins-seam pattern x y (omega arith) ∙ rw (sym compared ∙ e, tail-lent))

  pub runs-differ : same ≡ false → false ≡ begins pattern (x ++ y)
  runs-differ e = sym (begins-seam pattern x y (omega arith) ∙ rw (sym compared ∙ e))

-- `starts_with` of slices is the test of a pattern; and where the pattern stands, each of its bytes does.
pub starts_begins : (pattern text : List ℕ) → starts_with eqb text pattern ≡ begins pattern text
unfolding begins
starts_begins pattern text = pointwise_same pattern (take (length pattern) text)

module _ (pattern text : List ℕ) (at : ℕ) where
  pub byte-stands : begins pattern (drop at text) ≡ true → (j : ℕ) → j < length pattern → get_or text (at + j) 0 ≡ get_or pattern j 0
  byte-stands here j inside =
      sym (get_or-drop at text j 0) ∙ ap (λ t. get_or t j 0) (begins-split pattern (drop at text) here) ∙ get_or-append pattern _ 0 j inside
