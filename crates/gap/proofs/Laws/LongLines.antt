-- Laws of the first longer line: there is none exactly where no line is longer, and how it is looked for line by line.
use Rattle.std.proofs.Common.{Some, None}
use mathlib.Core.Path.{◌≡◌, refl, sym, ap, ◌∙◌}
use mathlib.Core.Logic.{⊎_elim}
use mathlib.Core.Bool.{Bool, true, false, not, ◌&&◌, cond}
use mathlib.Core.List.{List, [], ◌∷◌}
use Prim.Native.Nat.{ℕ, suc, ◌+◌, ◌-◌, ◌≤◌, ◌<◌}
use native.Mathlib.Nat.{eq-or-lt_of_le}
use native.Mathlib.Omega.{arith}
use lib.Dec.{eqb, leb, ltb}
use lib.ListN.{length, drop, get_or, drop_of_length-le}
use lib.Seq.{get_or-take, get_or-drop}
use borrow.Author.Tests.{ltb-true, ltb-false, lt-ltb, le-ltb, le-leb, eq-eqb, ne_eqb, eqb-true, not-true}
use Rattle.std.proofs.lemmas.Bool.{and_right, or_from}
use Rattle.gap.specs.Rules.Sequence.{part}
use Rattle.gap.specs.Rules.Nearest.{nearest}
use Rattle.gap.specs.Rules.Lines.{newline}
use Rattle.gap.specs.Rules.Fields.{line_of, line_at, end_at}
use Rattle.gap.specs.Rules.LineLimits.{lines_fit, begins_line, long_line}
use Rattle.gap.specs.Wording.LinesAfter.{lines_fit_after}
use Rattle.gap.proofs.Laws.Tests.{decided, and_both, or_right}
use Rattle.gap.proofs.Laws.Sequence.{every-at, length_part}
use Rattle.gap.proofs.Laws.Nearest.{none-nowhere, nowhere-none}
use Rattle.gap.proofs.Laws.Scans.{Scan, scan-found, scan-none}
use Rattle.gap.proofs.Laws.RowScans.{row-none, row_last}
use Rattle.gap.proofs.Laws.LinePlaces.{line-starts, ends-unbroken, ends-stop}
use Rattle.gap.proofs.Laws.LineLimits.{after_nothing, after_none, after-byte, fit_line, fit-drop}

-- A longer line begins at a place.
abbrev pub longer_at : ℕ → List ℕ → ℕ → Bool
longer_at limit s at = begins_line s at && ltb limit (length (line_at s at))

other-fails : (a b : Bool) → (a && b) ≡ false → a ≡ true → b ≡ false
other-fails a b e p = sym (ap (λ t. t && b) p) ∙ e

module _ (limit : ℕ) where
  -- ---- There is none exactly where the lines fit

  pub fit-nowhere : (s : List ℕ) → lines_fit limit s ≡ true → long_line limit s ≡ None
  unfolding long_line line_at
  fit-nowhere s fits =
      none-nowhere _ (length s) 0
      (λ j low high. and_right (begins_line s j) _ (le-ltb limit (length (line_of (drop j s))) (fit_line limit (drop j s) (fit-drop limit j s fits))))

  -- The same, as code has tested it.
  pub lines-fitting : (s : List ℕ) {fits : Bool} → fits ≡ lines_fit_after limit 0 s → fits ≡ true → None ≡ long_line limit s
  lines-fitting s tested passes = sym (fit-nowhere s (sym (after_nothing limit s) ∙ sym tested ∙ passes))

  each-with : (is : Bool) (n b : ℕ) (line : List ℕ) (whole : ℕ → Bool) → n + length (cond is [] (b ∷ line)) ≤ limit
      → (is ≡ true → length line ≤ limit) → ((m : ℕ) → m + length line ≤ limit → whole m ≡ true)
      → cond is (leb n limit && whole 0) (whole (suc n)) ≡ true
  each-with true n b line whole first behind rest = and_both (le-leb n limit (omega arith)) (rest 0 (omega (arith, behind refl)))
  each-with false n b line whole first behind rest = rest (suc n) (omega arith)

  -- Where the first line is within the limit and so is the one behind each newline, all are.
  each_fits : (n : ℕ) (s : List ℕ) → n + length (line_of s) ≤ limit
      → ((j : ℕ) → j < length s → get_or s j 0 ≡ newline → length (line_of (drop (suc j) s)) ≤ limit)
      → lines_fit_after limit n s ≡ true
  unfolding line_of
  each_fits n [] first each = after_none limit n ∙ le-leb n limit (omega arith)
  each_fits n (b ∷ s) first each =
      after-byte limit n b s
      ∙ each-with (eqb b newline) n b (line_of s) (λ m. lines_fit_after limit m s) first
      (λ e. each 0 (omega arith) (eqb-true b newline e))
      (λ m fits. each_fits m s fits (λ j inside at. each (suc j) (omega arith) at))

  -- Where no place is found, the line that begins at a place is within the limit; at the end there is none.
  module _ (s : List ℕ) (nowhere : long_line limit s ≡ None) where
    line-at-fits : (at : ℕ) → begins_line s at ≡ true → length (line_of (drop at s)) ≤ limit
    unfolding long_line line_at line_of
    line-at-fits at begins = ⊎_elim within outside (decided (ltb at (length s)))
      where
        within : ltb at (length s) ≡ true → length (line_of (drop at s)) ≤ limit
        within more =
            let none = nowhere-none (longer_at limit s) (length s) 0 nowhere at (omega arith) (omega (arith, ltb-true at (length s) more)) in
            ltb-false limit (length (line_of (drop at s))) (other-fails (begins_line s at) _ none begins)

        outside : ltb at (length s) ≡ false → length (line_of (drop at s)) ≤ limit
        outside none =
            let empty : length (line_of (drop at s)) ≡ 0 = ap (λ t. length (line_of t)) (drop_of_length-le s (ltb-false _ _ none)) in omega arith

    pub nowhere-fit : lines_fit limit s ≡ true
    nowhere-fit =
        sym (after_nothing limit s)
        ∙ each_fits 0 s (omega (arith, line-at-fits 0 refl))
        (λ j inside at.
        let same : suc j - 1 ≡ j = omega arith in
        line-at-fits (suc j) (or_right (eqb (suc j) 0) (eq-eqb (get_or s (suc j - 1) 0) newline (ap (λ k. get_or s k 0) same ∙ at))))

  -- ---- The search line by line

  -- No longer line begins before place i, where a line begins.
  pub record LinesPassed (s : List ℕ) (i : ℕ) : Type 0 where
    pub scan : Scan (longer_at limit s) (length s) 0 i
    pub begins : begins_line s i ≡ true

  module _ (s : List ℕ) where
    module _ {i : ℕ} (so_far : LinesPassed s i) where
      pub lines_none : length s ≤ i → None ≡ long_line limit s
      unfolding long_line
      lines_none end = scan-none _ _ _ i so_far.scan (omega arith)

      -- The line that begins there, as code has found its end.
      module _ (inside : i < length s) {end : ℕ} (ends : end ≡ end_at s i) where
        size : end - i ≡ length (line_at s i)
        unfolding end_at
        size = omega arith

        pub lines-found : limit < end - i → Some i ≡ long_line limit s
        unfolding long_line
        lines-found long =
            scan-found _ _ _ i so_far.scan (omega arith) (and_both so_far.begins (lt-ltb limit (length (line_at s i)) (omega (arith, size))))

        module _ (short : end - i ≤ limit) where
          -- Nowhere within a line does another begin.
          within-line : (j : ℕ) → i < j → j ≤ end → begins_line s j ≡ false
          unfolding part
          within-line j low high =
              let unbroken = ends-unbroken s i (omega arith) ends in
              let k = j - 1 - i in
              let place : i + k ≡ j - 1 = omega arith in
              let fits : k < length (part i (end - i) s) = omega (arith, length_part i (end - i) s (omega (arith, unbroken.low, unbroken.high))) in
              let byte : get_or (part i (end - i) s) k 0 ≡ get_or s (j - 1) 0 =
              get_or-take (end - i) (drop i s) k 0 (omega arith) ∙ get_or-drop i s k 0 ∙ ap (λ m. get_or s m 0) place in
              let other : not (eqb (get_or s (j - 1) 0) newline) ≡ true =
              ap (λ b. not (eqb b newline)) (sym byte) ∙ every-at (λ b. not (eqb b newline)) (part i (end - i) s) k unbroken.bytes fits in
              or_from _ _ (ne_eqb j 0 (λ e. omega arith)) (not-true (eqb (get_or s (j - 1) 0) newline) other)

          none-longer : (j : ℕ) → i ≤ j → j ≤ end → longer_at limit s j ≡ false
          none-longer j low high =
              ⊎_elim (λ e. ap (longer_at limit s) (sym e) ∙ and_right (begins_line s i) _ (le-ltb limit (length (line_at s i)) (omega (arith, size))))
              (λ above. ap (λ t. t && ltb limit (length (line_at s j))) (within-line j above high))
              (eq-or-lt_of_le low)

          pub lines_more : end < length s → LinesPassed s (end + 1)
          lines_more more =
              let row = end + 1 - i in
              let place : i + row ≡ end + 1 = omega (arith, line-starts s i ends) in
              let before : end + 1 - 1 ≡ end = omega arith in
              let none : nearest (longer_at limit s) row i ≡ None = none-nowhere _ row i (λ j low high. none-longer j low (omega arith)) in
              let passed : Scan (longer_at limit s) (length s) 0 (i + row) = row-none so_far.scan row (omega (arith, place)) refl none in
              record {
                scan = rw (← place) passed;
                begins =
                    or_right (eqb (end + 1) 0) (eq-eqb (get_or s (end + 1 - 1) 0) newline (ap (λ k. get_or s k 0) before ∙ ends-stop s i ends more));
              }

          pub lines-last : length s ≤ end → None ≡ long_line limit s
          unfolding long_line
          lines-last over =
              row_last so_far.scan (length s - i) (omega arith)
              (sym (none-nowhere _ (length s - i) i (λ j low high. none-longer j low (omega arith))))
