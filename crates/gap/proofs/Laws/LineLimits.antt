-- Laws of lines against a limit: of two texts put together, of a front and of a rest, of short texts, and of what keys put in and take out.
use mathlib.Core.Path.{◌≡◌, refl, sym, ap, ap₂, ◌∙◌}
use mathlib.Core.Logic.{⊎_elim}
use mathlib.Core.Bool.{Bool, true, false, ◌&&◌, cond, and-true, and_assoc}
use mathlib.Core.List.{List, [], ◌∷◌, ◌++◌, append-nil}
use Prim.Native.Nat.{ℕ, suc, ◌+◌, ◌-◌, ◌≤◌, ◌<◌}
use native.Mathlib.Omega.{arith}
use lib.Dec.{eqb, leb}
use lib.ListN.{length, take, drop, get_or, take-append-drop}
use borrow.Author.Tests.{leb-true, leb-false, le-leb, lt-leb}
use Rattle.gap.specs.Rules.Lines.{newline, since_after, since, longer, lines}
use Rattle.gap.specs.Rules.Fields.{line_of, line_at, end_at}
use Rattle.gap.specs.Rules.Indents.{spaces}
use Rattle.gap.specs.Rules.LineLimits.{none_longer, lines_fit}
use Rattle.gap.specs.Wording.LinesAfter.{lines_fit_after}
use Rattle.gap.proofs.Laws.Tests.{decided, and_left, and_right, and_both}
use Rattle.gap.proofs.Laws.Lines.{first_line, later_lines, lines-first, since-append, since-fits, since-unbroken}
use Rattle.gap.proofs.Laws.Indents.{length-spaces, spaces-unbroken}

-- ---- Tests of which one tells the other

passed-both : (a b : Bool) → (b ≡ true → a ≡ true) → (a && b) ≡ b
passed-both true b told = refl
passed-both false true told = told refl
passed-both false false told = refl

passed-twice : (a b c : Bool) → (a ≡ true → b ≡ true) → (a && (b && c)) ≡ (a && c)
passed-twice true b c told = ap (λ t. t && c) (told refl)
passed-twice false b c told = refl

smaller-fits : {a : ℕ} (b limit : ℕ) → a ≤ b → leb b limit ≡ true → leb a limit ≡ true
smaller-fits {a} b limit less fits = le-leb a limit (omega (arith, leb-true b limit fits))

-- ---- One byte more in front

-- The first line by its bytes, and the others, which a byte that is no newline does not change.
first-with : (is : Bool) (b : ℕ) (ls : List (List ℕ)) → get_or (cond is ([] ∷ ls) (longer b ls)) 0 [] ≡ cond is [] (b ∷ get_or ls 0 [])
first-with true b ls = refl
first-with false b [] = refl
first-with false b (first ∷ rest) = refl

pub first-line : (s : List ℕ) → first_line s ≡ line_of s
unfolding lines line_of
first-line [] = refl
first-line (b ∷ s) = first-with (eqb b newline) b (lines s) ∙ ap (λ line. cond (eqb b newline) [] (b ∷ line)) (first-line s)

later-with : (b : ℕ) (ls : List (List ℕ)) → drop 1 (longer b ls) ≡ drop 1 ls
later-with b [] = refl
later-with b (first ∷ rest) = refl

-- ---- A byte and spaces

-- A byte and k spaces behind it, put in where a line has n bytes: how many bytes the line then has up to there.
abbrev pub spaced_at : ℕ → ℕ → ℕ → ℕ
spaced_at b k n = cond (eqb b newline) k (n + 1 + k)

spaced-with : (is : Bool) (n k : ℕ) → since_after (cond is 0 (suc n)) (spaces k) ≡ cond is k (n + 1 + k)
spaced-with true n k = since-unbroken 0 (spaces k) (spaces-unbroken k) ∙ omega (arith, length-spaces k)
spaced-with false n k = since-unbroken (suc n) (spaces k) (spaces-unbroken k) ∙ omega (arith, length-spaces k)

pub since-spaced : (b k : ℕ) (front : List ℕ) → since (front ++ (b ∷ spaces k)) ≡ spaced_at b k (since front)
unfolding since_after
since-spaced b k front = since-append 0 front (b ∷ spaces k) ∙ spaced-with (eqb b newline) (since front) k

-- ---- Texts that fit

module _ (limit : ℕ) where
  -- The first line fits, and the later ones do.
  fit-first : (s : List ℕ) → lines_fit limit s ≡ (leb (length (line_of s)) limit && none_longer limit (later_lines s))
  unfolding lines_fit none_longer
  fit-first s =
      ap (none_longer limit) (lines-first s) ∙ ap (λ line. leb (length line) limit && none_longer limit (later_lines s)) (first-line s)

  after_first : (n : ℕ) (s : List ℕ) → lines_fit_after limit n s ≡ (leb (n + length (line_of s)) limit && none_longer limit (later_lines s))
  unfolding lines_fit_after
  after_first n s =
      ap (λ fit. leb (n + length (line_of s)) limit && fit) (fit-first s)
      ∙ passed-twice _ _ _ (smaller-fits (n + length (line_of s)) limit (omega arith))

  -- With nothing before it, the text is all there is.
  pub after_nothing : (s : List ℕ) → lines_fit_after limit 0 s ≡ lines_fit limit s
  after_nothing s =
      let all : 0 + length (line_of s) ≡ length (line_of s) = omega arith in
      after_first 0 s ∙ ap (λ k. leb k limit && none_longer limit (later_lines s)) all ∙ sym (fit-first s)

  pub after_none : (n : ℕ) → lines_fit_after limit n [] ≡ leb n limit
  unfolding lines line_of none_longer
  after_none n = let all : n + 0 ≡ n = omega arith in after_first n [] ∙ ap (λ k. leb k limit && true) all ∙ and-true (leb n limit)

  after-with : (is : Bool) (n b : ℕ) (line : List ℕ) (ls : List (List ℕ))
      → (leb (n + length (cond is [] (b ∷ line))) limit && none_longer limit (drop 1 (cond is ([] ∷ ls) (longer b ls))))
      ≡ cond is (leb n limit && none_longer limit ls) (leb (suc n + length line) limit && none_longer limit (drop 1 ls))
  after-with true n b line ls = let all : n + 0 ≡ n = omega arith in ap (λ k. leb k limit && none_longer limit ls) all
  after-with false n b line ls =
      let all : n + suc (length line) ≡ suc n + length line = omega arith in
      ap₂ (λ k later. leb k limit && none_longer limit later) all (later-with b ls)

  -- A newline ends the line before it; any other byte makes that line one byte longer.
  pub after-byte : (n b : ℕ) (s : List ℕ)
      → lines_fit_after limit n (b ∷ s) ≡ cond (eqb b newline) (leb n limit && lines_fit_after limit 0 s) (lines_fit_after limit (suc n) s)
  unfolding lines line_of lines_fit
  after-byte n b s =
      after_first n (b ∷ s)
      ∙ after-with (eqb b newline) n b (line_of s) (lines s)
      ∙ ap₂ (λ x y. cond (eqb b newline) (leb n limit && x) y) (sym (after_nothing s)) (sym (after_first (suc n) s))

  -- ---- Two texts put together

  append-with : (is : Bool) (n : ℕ) (here : Bool) (whole front behind : ℕ → Bool) → ((m : ℕ) → whole m ≡ (front m && behind m))
      → cond is (here && whole 0) (whole (suc n)) ≡ (cond is (here && front 0) (front (suc n)) && behind (cond is 0 (suc n)))
  append-with true n here whole front behind both = ap (λ t. here && t) (both 0) ∙ sym (and_assoc here _ _)
  append-with false n here whole front behind both = both (suc n)

  pub carried-fits : (n : ℕ) (s : List ℕ) → lines_fit_after limit n s ≡ true → leb n limit ≡ true
  unfolding lines_fit_after
  carried-fits n s fits = smaller-fits (n + length (line_of s)) limit (omega arith) (and_left _ _ fits)

  -- The second goes on where the first has come to.
  pub after-append : (n : ℕ) (s t : List ℕ) → lines_fit_after limit n (s ++ t) ≡ (lines_fit_after limit n s && lines_fit_after limit (since_after n s) t)
  unfolding since_after
  after-append n [] t =
      sym (ap (λ fit. fit && lines_fit_after limit n t) (after_none n) ∙ passed-both (leb n limit) _ (carried-fits n t))
  after-append n (b ∷ s) t =
      after-byte n b (s ++ t)
      ∙ append-with (eqb b newline) n (leb n limit) (λ m. lines_fit_after limit m (s ++ t)) (λ m. lines_fit_after limit m s)
      (λ m. lines_fit_after limit (since_after m s) t) (λ m. after-append m s t)
      ∙ ap (λ fit. fit && lines_fit_after limit (since_after (cond (eqb b newline) 0 (suc n)) s) t) (sym (after-byte n b s))

  pub fit_append : (s t : List ℕ) → lines_fit limit (s ++ t) ≡ (lines_fit limit s && lines_fit_after limit (since s) t)
  fit_append s t =
      sym (after_nothing (s ++ t)) ∙ after-append 0 s t ∙ ap (λ fit. fit && lines_fit_after limit (since s) t) (after_nothing s)

  -- A front and a rest of a text that fits do.
  pub after-fit : (n : ℕ) (s : List ℕ) → lines_fit_after limit n s ≡ true → lines_fit limit s ≡ true
  unfolding lines_fit_after
  after-fit n s fits = and_right (leb (n + length (line_of s)) limit) _ fits

  pub fit-left : (s t : List ℕ) → lines_fit limit (s ++ t) ≡ true → lines_fit limit s ≡ true
  fit-left s t fits = and_left _ _ (sym (fit_append s t) ∙ fits)

  pub fit-right : (s t : List ℕ) → lines_fit limit (s ++ t) ≡ true → lines_fit limit t ≡ true
  fit-right s t fits = after-fit (since s) t (and_right (lines_fit limit s) _ (sym (fit_append s t) ∙ fits))

  pub fit-take : (k : ℕ) (s : List ℕ) → lines_fit limit s ≡ true → lines_fit limit (take k s) ≡ true
  fit-take k s fits = fit-left (take k s) (drop k s) (rw take-append-drop fits)

  pub fit-drop : (k : ℕ) (s : List ℕ) → lines_fit limit s ≡ true → lines_fit limit (drop k s) ≡ true
  fit-drop k s fits = fit-right (take k s) (drop k s) (rw take-append-drop fits)

  -- The line on which a text that fits ends, and the one on which it begins, are within the limit.
  pub after-since : (n : ℕ) (s : List ℕ) → lines_fit_after limit n s ≡ true → since_after n s ≤ limit
  after-since n s fits =
      let whole : lines_fit_after limit n (s ++ []) ≡ true = ap (lines_fit_after limit n) (append-nil s) ∙ fits in
      let last = and_right (lines_fit_after limit n s) _ (sym (after-append n s []) ∙ whole) in
      leb-true _ _ (sym (after_none (since_after n s)) ∙ last)

  pub fit-since : (s : List ℕ) → lines_fit limit s ≡ true → since s ≤ limit
  fit-since s fits = after-since 0 s (after_nothing s ∙ fits)

  pub fit_line : (s : List ℕ) → lines_fit limit s ≡ true → length (line_of s) ≤ limit
  fit_line s fits = leb-true _ _ (and_left _ _ (sym (fit-first s) ∙ fits))

  -- ---- Short texts

  short-with : (is : Bool) (n k : ℕ) (whole : ℕ → Bool) → n + suc k ≤ limit → ((m : ℕ) → m + k ≤ limit → whole m ≡ true)
      → cond is (leb n limit && whole 0) (whole (suc n)) ≡ true
  short-with true n k whole short rest = and_both (le-leb n limit (omega arith)) (rest 0 (omega arith))
  short-with false n k whole short rest = rest (suc n) (omega arith)

  -- What is no longer than the limit, with what stands before it on its line, has no longer line.
  pub after-short : (n : ℕ) (s : List ℕ) → n + length s ≤ limit → lines_fit_after limit n s ≡ true
  after-short n [] short = after_none n ∙ le-leb n limit (omega arith)
  after-short n (b ∷ s) short =
      after-byte n b s ∙ short-with (eqb b newline) n (length s) (λ m. lines_fit_after limit m s) short (λ m. after-short m s)

  pub fit-short : (s : List ℕ) → length s ≤ limit → lines_fit limit s ≡ true
  fit-short s short = sym (after_nothing s) ∙ after-short 0 s (omega arith)

  -- So short a text that a newline ends does not matter to what stands behind that.
  pub after-ended : (n : ℕ) (front behind : List ℕ) → n + length front ≤ limit
      → lines_fit_after limit n (front ++ (newline ∷ behind)) ≡ lines_fit_after limit 0 behind
  after-ended n front behind short =
      let at = since_after n front in
      let ended : leb at limit ≡ true = le-leb at limit (omega (arith, since-fits n front)) in
      after-append n front (newline ∷ behind)
      ∙ ap₂ ◌&&◌ (after-short n front short) (after-byte at newline behind ∙ ap (λ fit. fit && lines_fit_after limit 0 behind) ended)

  -- ---- Keys

  -- Only the first line of what fits by itself can be too long behind other bytes.
  pub after-joined : (n : ℕ) (behind : List ℕ) → lines_fit limit behind ≡ true
      → lines_fit_after limit n behind ≡ leb (n + length (line_of behind)) limit
  unfolding lines_fit_after
  after-joined n behind fits = ap (λ fit. leb (n + length (line_of behind)) limit && fit) fits ∙ and-true _

  -- What is left of a text when the bytes between are gone: the line where it is joined decides.
  pub fit-joined : (front behind : List ℕ) → lines_fit limit front ≡ true → lines_fit limit behind ≡ true
      → lines_fit limit (front ++ behind) ≡ leb (since front + length (line_of behind)) limit
  fit-joined front behind fits also =
      fit_append front behind ∙ ap (λ fit. fit && lines_fit_after limit (since front) behind) fits ∙ after-joined (since front) behind also

  -- Two runs put in between: each goes on where the one before it has come to.
  pub fit-runs : (front x y behind : List ℕ) → lines_fit limit front ≡ true → lines_fit limit behind ≡ true
      → lines_fit limit (front ++ (x ++ (y ++ behind)))
      ≡ (lines_fit_after limit (since front) x
      && (lines_fit_after limit (since_after (since front) x) y
      && leb (since_after (since_after (since front) x) y + length (line_of behind)) limit))
  fit-runs front x y behind fits also =
      let at_x = since front in let at_y = since_after at_x x in
      fit_append front (x ++ (y ++ behind))
      ∙ ap (λ fit. fit && lines_fit_after limit at_x (x ++ (y ++ behind))) fits
      ∙ after-append at_x x (y ++ behind)
      ∙ ap (λ rest. lines_fit_after limit at_x x && rest)
      (after-append at_y y behind ∙ ap (λ last. lines_fit_after limit at_y y && last) (after-joined (since_after at_y y) behind also))

  spaced-fits : (is : Bool) (n k : ℕ) → n ≤ limit → cond is k (n + 1 + k) ≤ limit
      → cond is (leb n limit && lines_fit_after limit 0 (spaces k)) (lines_fit_after limit (suc n) (spaces k)) ≡ true
  spaced-fits true n k fits last = and_both (le-leb n limit fits) (after-short 0 (spaces k) (omega (arith, length-spaces k)))
  spaced-fits false n k fits last = after-short (suc n) (spaces k) (omega (arith, length-spaces k))

  -- Where they go into a text that fits, the line on which they end decides.
  pub fit-spaced : (b k : ℕ) (front behind : List ℕ) → lines_fit limit (front ++ behind) ≡ true
      → lines_fit limit ((front ++ (b ∷ spaces k)) ++ behind) ≡ leb (spaced_at b k (since front) + length (line_of behind)) limit
  fit-spaced b k front behind fits =
      let n = since front in
      let run = b ∷ spaces k in
      let at_front = fit-left front behind fits in
      fit_append (front ++ run) behind
      ∙ ap (λ fit. lines_fit limit (front ++ run) && fit)
      (after-joined (since (front ++ run)) behind (fit-right front behind fits)
      ∙ ap (λ at. leb (at + length (line_of behind)) limit) (since-spaced b k front))
      ∙ passed-both (lines_fit limit (front ++ run)) _
      (λ e. fit_append front run
      ∙ and_both at_front
      (after-byte n b (spaces k)
      ∙ spaced-fits (eqb b newline) n k (fit-since front at_front)
      (omega (arith, leb-true (spaced_at b k n + length (line_of behind)) limit e))))

-- ---- The line that goes on, as code tests it

room_for : (limit at k : ℕ) → at ≤ limit → leb k (limit - at) ≡ leb (at + k) limit
room_for limit at k fits =
    ⊎_elim (λ passes. passes ∙ sym (le-leb (at + k) limit (omega (arith, leb-true k (limit - at) passes))))
    (λ fails. fails ∙ sym (lt-leb (at + k) limit (omega (arith, leb-false k (limit - at) fails))))
    (decided (leb k (limit - at)))

pub line-over : (limit at : ℕ) (behind : List ℕ) → limit < at → false ≡ leb (at + length (line_of behind)) limit
line-over limit at behind over = sym (lt-leb (at + length (line_of behind)) limit (omega arith))

pub line-room : {limit at end : ℕ} (behind : List ℕ) → at ≤ limit → end ≡ end_at behind 0
    → leb end (limit - at) ≡ leb (at + length (line_of behind)) limit
unfolding end_at line_at
line-room {limit} {at} {end} behind fits ends =
    let size : end ≡ length (line_of behind) = ends ∙ omega arith in
    ap (λ k. leb k (limit - at)) size ∙ room_for limit at (length (line_of behind)) fits
