-- A text fits a limit exactly when each of its lines does; and the first longer line is found exactly where it begins. (02, M-106.)
use Rattle.std.proofs.Common.{Option, Some, None}
use mathlib.Core.Path.{◌≡◌, refl, sym, ap, ◌∙◌}
use mathlib.Core.Logic.{◌↔◌, ⊎_elim}
use mathlib.Core.Bool.{true, false, ◌&&◌}
use mathlib.Core.List.{List, [], ◌∷◌}
use Prim.Native.Nat.{ℕ, zero, suc, ◌≤◌, ◌<◌}
use native.Mathlib.Omega.{arith}
use lib.Dec.{leb, ltb}
use lib.ListN.{length, get_or}
use borrow.Author.Tests.{leb-true, le-leb, ltb-true, ltb-false, lt-ltb, le-ltb}
use Rattle.gap.specs.Rules.Nearest.{nearest}
use Rattle.gap.specs.Rules.Lines.{lines}
use Rattle.gap.specs.Rules.Fields.{line_at}
use Rattle.gap.specs.Rules.LineLimits.{none_longer, lines_fit, begins_line, long_line}
use Rattle.gap.proofs.Laws.Tests.{clash, decided, and_left, and_right, and_both}
use Rattle.gap.proofs.Laws.Nearest.{reached-least, least-reached}
use Rattle.gap.proofs.Laws.LongLines.{longer_at, fit-nowhere, nowhere-fit}

-- ---- Every line

module _ (limit : ℕ) where
  none-longer : (ls : List (List ℕ)) → none_longer limit ls ≡ true → (i : ℕ) → length (get_or ls i []) ≤ limit
  unfolding none_longer
  none-longer [] fits i = omega arith
  none-longer (line ∷ rest) fits zero = leb-true (length line) limit (and_left _ _ fits)
  none-longer (line ∷ rest) fits (suc i) = none-longer rest (and_right (leb (length line) limit) _ fits) i

  longer-none : (ls : List (List ℕ)) → ((i : ℕ) → length (get_or ls i []) ≤ limit) → none_longer limit ls ≡ true
  unfolding none_longer
  longer-none [] each = refl
  longer-none (line ∷ rest) each = and_both (le-leb (length line) limit (each 0)) (longer-none rest (λ i. each (suc i)))

  pub every-line-fits : (s : List ℕ) → (lines_fit limit s ≡ true) ↔ ((i : ℕ) → length (get_or (lines s) i []) ≤ limit)
  unfolding lines_fit
  every-line-fits s = (none-longer (lines s), longer-none (lines s))

  -- ---- The first longer line

  -- A line begins at a place and is longer than the limit, and none that begins earlier is.
  pub record FirstLonger (s : List ℕ) (at : ℕ) : Type 0 where
    pub within : at < length s
    pub begins : begins_line s at ≡ true
    pub long : limit < length (line_at s at)
    pub before : (j : ℕ) → j < at → begins_line s j ≡ true → length (line_at s j) ≤ limit

  other-short : (s : List ℕ) (j : ℕ) → longer_at limit s j ≡ false → begins_line s j ≡ true → length (line_at s j) ≤ limit
  other-short s j none begins = ltb-false limit (length (line_at s j)) (sym (ap (λ t. t && ltb limit (length (line_at s j))) begins) ∙ none)

  short-other : (s : List ℕ) (j : ℕ) → (begins_line s j ≡ true → length (line_at s j) ≤ limit) → longer_at limit s j ≡ false
  short-other s j short =
      ⊎_elim (λ begins. ap (λ t. t && ltb limit (length (line_at s j))) begins ∙ le-ltb limit (length (line_at s j)) (short begins))
      (λ within. ap (λ t. t && ltb limit (length (line_at s j))) within)
      (decided (begins_line s j))

  module _ (s : List ℕ) where
    pub long-line-first : (at : ℕ) → (long_line limit s ≡ Some at) ↔ FirstLonger s at
    unfolding long_line
    long-line-first at = (found, finds)
      where
        found : nearest (longer_at limit s) (length s) 0 ≡ Some at → FirstLonger s at
        found e =
            let least = reached-least (longer_at limit s) (length s) 0 at e in
            record {
              within = omega (arith, least.within);
              begins = and_left (begins_line s at) _ least.passes;
              long = ltb-true limit (length (line_at s at)) (and_right (begins_line s at) _ least.passes);
              before = λ j low. other-short s j (least.before j (omega arith) low);
            }

        finds : FirstLonger s at → nearest (longer_at limit s) (length s) 0 ≡ Some at
        finds first =
            least-reached (longer_at limit s) (length s) 0 at
            (record {
              from = omega arith;
              within = omega (arith, first.within);
              passes = and_both first.begins (lt-ltb limit (length (line_at s at)) first.long);
              before = λ j low high. short-other s j (first.before j high);
            })

    -- There is none exactly where no line is longer.
    pub long-line-nowhere : (long_line limit s ≡ None) ↔ (lines_fit limit s ≡ true)
    long-line-nowhere = (nowhere-fit limit s, fit-nowhere limit s)

    -- There is one exactly where a line is longer.
    pub record LongLine : Type 0 where
      pub at : ℕ
      pub reached : long_line limit s ≡ Some at

    reach : (found : Option ℕ) → long_line limit s ≡ found → lines_fit limit s ≡ false → LongLine
    reach (Some at) e long = record { at = at; reached = e }
    reach None e long = clash (nowhere-fit limit s e) long

    fails : LongLine → lines_fit limit s ≡ false
    fails found =
        ⊎_elim (λ fits. let both : ◌≡◌ {A = ℕ} 0 1 = cc (found.reached, fit-nowhere limit s fits) in absurd (omega arith)) (λ long. long)
        (decided (lines_fit limit s))

    pub long-line-reached : (lines_fit limit s ≡ false) ↔ LongLine
    long-line-reached = (reach (long_line limit s) refl, fails)
