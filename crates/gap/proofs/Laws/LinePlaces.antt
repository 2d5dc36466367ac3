-- Laws of lines by their places: where a line ends, where the next one starts, and how lines are counted.
use mathlib.Core.Path.{◌≡◌, refl, sym, ap, ◌∙◌}
use mathlib.Core.Logic.{⊎_elim}
use mathlib.Core.Bool.{Bool, true, false, not, cond}
use mathlib.Core.List.{List, [], ◌∷◌, ◌++◌, append-nil}
use Prim.Native.Nat.{ℕ, suc, ◌+◌, ◌-◌, ◌≤◌, ◌<◌}
use native.Mathlib.Numerals.{add-one}
use native.Mathlib.Omega.{arith}
use lib.Dec.{eqb, ltb}
use lib.ListN.{length, take, drop, get_or, length-take, length-drop, take-append-drop, drop_of_length-le}
use lib.Seq.{drop-cons, drop-drop, get_or-drop}
use borrow.Author.Tests.{ltb-true, ltb-false, lt-ltb, le-ltb, eq-eqb, eqb-true, not-true}
use borrow.Rule.Slice.PartMut.{mid_of}
use Rattle.gap.specs.Rules.Sequence.{every, part}
use Rattle.gap.specs.Rules.Lines.{newline, newlines, Unbroken}
use Rattle.gap.proofs.Laws.Tests.{cond-true, cond-false, and_left, and_right, and_both, decided}
use Rattle.gap.proofs.Laws.Sequence.{length_part}
use Rattle.gap.proofs.Laws.Lines.{front-newlines}
use Rattle.gap.specs.Rules.Fields.{line_of, line_at, end_at, next_at, line_number}

-- ---- One line

-- A line is the front of what is left.
front : (is : Bool) (b : ℕ) (line s : List ℕ) → take (length line) s ≡ line
    → take (length (cond is [] (b ∷ line))) (b ∷ s) ≡ cond is [] (b ∷ line)
front true b line s e = refl
front false b line s e = ap (λ t. b ∷ t) e

line-front : (s : List ℕ) → take (length (line_of s)) s ≡ line_of s
unfolding line_of
line-front [] = refl
line-front (b ∷ s) = front (eqb b newline) b (line_of s) s (line-front s)

line-fits : (s : List ℕ) → length (line_of s) ≤ length s
line-fits s = omega (arith, ap length (line-front s), length-take (length (line_of s)) s)

-- The next line starts within the bytes or at their end, and further on where there is a line.
next-bounds : (t : Bool) (at end n : ℕ) → ltb end n ≡ t → at ≤ end → end ≤ n
    → (cond t (suc end) end ≤ n) × (at < n → at < cond t (suc end) end)
next-bounds true at end n e after fits = (omega (arith, ltb-true end n e), λ more. omega arith)
next-bounds false at end n e after fits = (omega arith, λ more. omega (arith, ltb-false end n e))

module _ (s : List ℕ) (at : ℕ) where
  end_after : at ≤ end_at s at
  unfolding end_at
  end_after = omega arith

  end_fits : at ≤ length s → end_at s at ≤ length s
  unfolding end_at line_at
  end_fits inside = omega (arith, line-fits (drop at s), length-drop at s)

  -- Where code found the line's end.
  module _ {end : ℕ} (ends : end ≡ end_at s at) where
    pub line-starts : at ≤ end
    line-starts = omega (arith, end_after)

    pub line-inside : at ≤ length s → end ≤ length s
    line-inside inside = omega (arith, end_fits inside)

    pub line-lent : mid_of at (end - at) s ≡ line_at s at
    unfolding end_at line_at
    line-lent =
        let long : end - at ≡ length (line_of (drop at s)) = omega arith in
        ap (λ k. take k (drop at s)) long ∙ line-front (drop at s)

    pub next-behind : end < length s → end + 1 ≡ next_at s at
    unfolding next_at
    next-behind more =
        add-one end ∙ sym (cond-true _ _ (lt-ltb _ _ more)) ∙ ap (λ e. cond (ltb e (length s)) (suc e) e) ends

    pub next-none : length s ≤ end → end ≡ next_at s at
    unfolding next_at
    next-none none = sym (cond-false _ _ (le-ltb _ _ none)) ∙ ap (λ e. cond (ltb e (length s)) (suc e) e) ends

  pub next_fits : at ≤ length s → next_at s at ≤ length s
  unfolding next_at
  next_fits inside = (next-bounds _ at (end_at s at) (length s) refl end_after (end_fits inside)).0

  pub next-inside : {next : ℕ} → next ≡ next_at s at → at ≤ length s → next ≤ length s
  next-inside onward inside = rw onward (next_fits inside)

  pub next-after : at < length s → at < next_at s at
  unfolding next_at
  next-after more = (next-bounds _ at (end_at s at) (length s) refl end_after (end_fits (omega arith))).1 more

-- ---- The search for a line's end

-- What has no newline is the front of a line; and a line has none.
line-goes-on : (front rest : List ℕ) → every (λ b. not (eqb b newline)) front ≡ true → line_of (front ++ rest) ≡ front ++ line_of rest
unfolding line_of every
line-goes-on [] rest none = refl
line-goes-on (b ∷ front) rest none =
    cond-false {t = eqb b newline} [] (b ∷ line_of (front ++ rest)) (not-true (eqb b newline) (and_left (not (eqb b newline)) _ none))
    ∙ ap (λ t. b ∷ t) (line-goes-on front rest (and_right (not (eqb b newline)) _ none))

unbroken-from : (is : Bool) (b : ℕ) (line : List ℕ) → eqb b newline ≡ is → every (λ b. not (eqb b newline)) line ≡ true
    → every (λ b. not (eqb b newline)) (cond is [] (b ∷ line)) ≡ true
unfolding every
unbroken-from true b line e none = refl
unbroken-from false b line e none = and_both (ap not e) none

line-unbroken : (s : List ℕ) → every (λ b. not (eqb b newline)) (line_of s) ≡ true
unfolding line_of every
line-unbroken [] = refl
line-unbroken (b ∷ s) = unbroken-from (eqb b newline) b (line_of s) refl (line-unbroken s)

-- Behind a line that is shorter than what is left there is a newline.
newline-behind : (is : Bool) (b : ℕ) (line s : List ℕ) → eqb b newline ≡ is → (length line < length s → get_or s (length line) 0 ≡ newline)
    → length (cond is [] (b ∷ line)) < length (b ∷ s) → get_or (b ∷ s) (length (cond is [] (b ∷ line))) 0 ≡ newline
newline-behind true b line s e behind more = eqb-true b newline e
newline-behind false b line s e behind more = behind (omega arith)

line-stops : (s : List ℕ) → length (line_of s) < length s → get_or s (length (line_of s)) 0 ≡ newline
unfolding line_of
line-stops [] more = absurd (omega arith)
line-stops (b ∷ s) more = newline-behind (eqb b newline) b (line_of s) s refl (line-stops s) more

-- Where a newline stands, or nothing, the line is empty.
line-over : (s : List ℕ) (end : ℕ) → (end < length s → get_or s end 0 ≡ newline) → line_of (drop end s) ≡ []
unfolding line_of
line-over s end stop = ⊎_elim at-newline at-end (decided (ltb end (length s)))
  where
    at-newline : ltb end (length s) ≡ true → line_of (drop end s) ≡ []
    at-newline more = ap line_of (drop-cons s end 0 (ltb-true _ _ more)) ∙ cond-true _ _ (eq-eqb _ _ (stop (ltb-true _ _ more)))

    at-end : ltb end (length s) ≡ false → line_of (drop end s) ≡ []
    at-end none = ap line_of (drop_of_length-le s (ltb-false _ _ none))

-- A line ends at a place exactly when no newline stands before it and one stands there, or the bytes end there.
module _ (s : List ℕ) (at : ℕ) {end : ℕ} where
  pub unbroken-ends : Unbroken s at end → (end < length s → get_or s end 0 ≡ newline) → end ≡ end_at s at
  unfolding end_at line_at part
  unbroken-ends unbroken stop =
      let behind : at + (end - at) ≡ end = omega (arith, unbroken.low) in
      let onward : drop (end - at) (drop at s) ≡ drop end s = rw (drop-drop, behind) in
      let cut : drop at s ≡ part at (end - at) s ++ drop end s =
      sym (rw (← onward) (take-append-drop (end - at) (drop at s))) in
      let over : line_of (drop end s) ≡ [] = line-over s end stop in
      let line : line_of (drop at s) ≡ part at (end - at) s =
      ap line_of cut ∙ line-goes-on _ _ unbroken.bytes ∙ ap (λ t. part at (end - at) s ++ t) over ∙ append-nil _ in
      omega (arith, ap length line, length_part at (end - at) s (omega (arith, unbroken.low, unbroken.high)), unbroken.low)

  pub ends-unbroken : at ≤ length s → end ≡ end_at s at → Unbroken s at end
  unfolding line_at part
  ends-unbroken inside ends =
      record {
        low = line-starts s at ends;
        high = line-inside s at ends inside;
        bytes = ap (every (λ b. not (eqb b newline))) (line-lent s at ends) ∙ line-unbroken (drop at s);
      }

  pub ends-stop : end ≡ end_at s at → end < length s → get_or s end 0 ≡ newline
  unfolding end_at line_at
  ends-stop ends more =
      ap (λ k. get_or s k 0) ends ∙ sym (get_or-drop at s (length (line_of (drop at s))) 0)
      ∙ line-stops (drop at s) (omega (arith, length-drop at s))

-- ---- Line numbers

-- The newlines before a line are no more than there are bytes, and one more is the line's number.
module _ (s : List ℕ) (at : ℕ) {n : ℕ} (counted : n ≡ newlines (take at s)) where
  pub lines_fit_lem : n ≤ length s
  lines_fit_lem = omega (arith, front-newlines at s)

  pub line-numbered : n + 1 ≡ line_number s at
  unfolding line_number
  line-numbered = add-one n ∙ ap suc counted
