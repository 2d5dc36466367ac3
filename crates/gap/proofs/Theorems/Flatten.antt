-- 001, section 2: lines flattened to a text, and the FLATTEN LEMMA: texts and sequences of lines correspond one to one.
use mathlib.Core.Path.{◌≡◌, refl, sym, ap, ap₂, ◌∙◌}
use mathlib.Core.Logic.{◌↔◌}
use mathlib.Core.Bool.{Bool, true, false, cond}
use mathlib.Core.List.{List, [], ◌∷◌, ◌++◌, append-nil}
use Prim.Native.Nat.{ℕ, suc, ◌≤◌}
use native.Mathlib.Omega.{arith}
use lib.Dec.{eqb}
use lib.ListN.{length, get_or}
use borrow.Author.Tests.{eqb-true}
use Rattle.gap.specs.Rules.Lines.{newline, newlines, longer, lines}
use Rattle.gap.proofs.Laws.Lines.{length-lines, lines-unbroken, first_line, later_lines, lines-first}

-- Newlines separate the text of the lines. 001 defines flatten for one line or more; without lines there is no text.
unfoldable pub flatten : List (List ℕ) → List ℕ
flatten [] = []
flatten (s ∷ []) = s
flatten (s ∷ (t ∷ rest)) = s ++ (newline ∷ flatten (t ∷ rest))

-- 001, seq1[LINE]: one line or more, and no newline in any of them.
pub record Lines (ls : List (List ℕ)) : Type 0 where
  pub some : 1 ≤ length ls
  pub unbroken : (i : ℕ) → newlines (get_or ls i []) ≡ 0

pub lines-are-lines : (s : List ℕ) → Lines (lines s)
lines-are-lines s = record { some = omega (arith, length-lines s); unbroken = lines-unbroken s }

flatten-longer : (b : ℕ) (ls : List (List ℕ)) → flatten (longer b ls) ≡ b ∷ flatten ls
unfolding flatten
flatten-longer b [] = refl
flatten-longer b (s ∷ []) = refl
flatten-longer b (s ∷ (t ∷ rest)) = refl

flatten-beginning : (is : Bool) (b : ℕ) (ls : List (List ℕ)) (s : List ℕ) → eqb b newline ≡ is → 1 ≤ length ls → flatten ls ≡ s
    → flatten (cond is ([] ∷ ls) (longer b ls)) ≡ b ∷ s
unfolding flatten
flatten-beginning true b [] s test one q = absurd (omega arith)
flatten-beginning true b (t ∷ rest) s test one q = rw (eqb-true b newline test) (ap (λ x. newline ∷ x) q)
flatten-beginning false b ls s test one q = flatten-longer b ls ∙ ap (λ x. b ∷ x) q

-- The lines of a text, flattened, are the text.
pub flatten-lines : (s : List ℕ) → flatten (lines s) ≡ s
unfolding flatten lines
flatten-lines [] = refl
flatten-lines (b ∷ s) = flatten-beginning (eqb b newline) b (lines s) s refl (lines-are-lines s).some (flatten-lines s)

same_line : (is : Bool) (b n : ℕ) (ls : List (List ℕ)) (first : List ℕ) (later : List (List ℕ))
    → cond is (suc n) n ≡ 0
    → (n ≡ 0 → ls ≡ first ∷ later)
    → cond is ([] ∷ ls) (longer b ls) ≡ (b ∷ first) ∷ later
same_line true b n ls first later e q = absurd (omega arith)
same_line false b n ls first later e q = ap (longer b) (q e)

-- A line in front of a text is the beginning of the text's first line.
line-append : (s t : List ℕ) → newlines s ≡ 0 → lines (s ++ t) ≡ (s ++ first_line t) ∷ later_lines t
unfolding newlines lines
line-append [] t e = lines-first t
line-append (b ∷ s) t e = same_line (eqb b newline) b (newlines s) (lines (s ++ t)) _ _ e (line-append s t)

-- A flattened sequence of lines has these lines.
pub lines-flatten : (ls : List (List ℕ)) → Lines ls → lines (flatten ls) ≡ ls
unfolding flatten lines
lines-flatten [] h = absurd (omega (arith, h.some))
lines-flatten (s ∷ []) h = rw append-nil at (line-append s [] (h.unbroken 0))
lines-flatten (s ∷ (t ∷ rest)) h =
    let others : Lines (t ∷ rest) = record { some = omega arith; unbroken = λ i. h.unbroken (suc i) } in
    line-append s (newline ∷ flatten (t ∷ rest)) (h.unbroken 0)
    ∙ ap₂ (λ x y. x ∷ y) (append-nil s) (lines-flatten (t ∷ rest) others)

-- FLATTEN LEMMA: different sequences of lines have different texts.
pub flatten-lemma : (a b : List (List ℕ)) → Lines a → Lines b → (flatten a ≡ flatten b) ↔ (a ≡ b)
flatten-lemma a b ha hb = (λ e. sym (lines-flatten a ha) ∙ ap lines e ∙ lines-flatten b hb, ap flatten)
