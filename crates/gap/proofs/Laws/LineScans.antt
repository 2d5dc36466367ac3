-- Laws of loops over newlines, byte by byte or block by block: counted from the front, and looked for from the back or from a place on.
use mathlib.Core.Path.{◌≡◌, refl, sym, ap, ◌∙◌}
use mathlib.Core.Bool.{Bool, true, false, not, cond}
use mathlib.Core.List.{List, [], ◌∷◌, ◌++◌, append_assoc}
use Prim.Native.Nat.{ℕ, suc, ◌+◌, ◌-◌, ◌≤◌, ◌<◌}
use native.Mathlib.Numerals.{add-one}
use native.Mathlib.Omega.{arith}
use mir.Val.{bool_byte}
use lib.Dec.{eqb}
use lib.ListN.{length, take, drop, get_or, take-append-drop, length-append, length-drop}
use lib.Seq.{take_at, drop_at, take-length, length-take-le, get_or-take, get_or-drop, drop-drop, drop-cons, take-add, take-suc}
use borrow.Author.Tests.{ne_eqb, not-true, not-false}
use borrow.Author.Rules.{part_to_end}
use Rattle.gap.specs.Rules.Sequence.{every, part}
use Rattle.gap.specs.Rules.Lines.{newline, newlines, since_after, Unbroken}
use Rattle.gap.proofs.Laws.Tests.{and_left, and_right, cond-false}
use Rattle.gap.proofs.Laws.Sequence.{every-both, at_every, length_part}
use Rattle.gap.proofs.Laws.Lines.{newlines-append, newlines-fit, since-append, since-unbroken}

-- count is the number of newlines that are no longer among what is left of s.
pub record Counted (s : List ℕ) (count : ℕ) (left : List ℕ) : Type 0 where
  pub rest : newlines s ≡ count + newlines left

as_number : (is : Bool) → bool_byte is ≡ cond is 1 0
as_number true = refl
as_number false = refl

module _ {s : List ℕ} {count : ℕ} where
  pub counted-fit : {left : List ℕ} → Counted s count left → count ≤ length s
  counted-fit so_far = omega (arith, so_far.rest, newlines-fit s)

  pub counted-all : (left : List ℕ) → Counted s count left → length left ≤ 0 → count ≡ newlines s
  unfolding newlines
  counted-all [] so_far end = omega (arith, so_far.rest)
  counted-all (b ∷ left) so_far end = absurd (omega arith)

  -- A block is counted.
  pub counted-block : (block rest : List ℕ) {left : List ℕ} {found : ℕ} → Counted s count left → left ≡ block ++ rest
      → found ≡ newlines block → Counted s (count + found) rest
  counted-block block rest so_far parts e =
      record { rest = omega (arith, so_far.rest, e, ap newlines parts, newlines-append block rest) }

  -- One byte is counted, by the number that code makes of the test.
  pub counted-byte : {i : ℕ} → Counted s count (drop i s) → i < length s
      → Counted s (count + bool_byte (eqb (get_or s i 0) newline)) (drop (i + 1) s)
  unfolding newlines
  counted-byte {i} so_far more =
      counted-block (get_or s i 0 ∷ []) (drop (i + 1) s) so_far (rw (add-one, drop-cons s i 0)) (as_number (eqb (get_or s i 0) newline))

-- Any byte but a newline is within a line; where there are only such, there are no newlines.
abbrev within-line : ℕ → Bool
within-line b = not (eqb b newline)

no-newlines : (s : List ℕ) → every within-line s ≡ true → newlines s ≡ 0
unfolding every newlines
no-newlines [] p = refl
no-newlines (b ∷ s) p =
    cond-false _ _ (not-true (eqb b newline) (and_left (within-line b) _ p)) ∙ no-newlines s (and_right (within-line b) _ p)

-- A stretch without a newline is empty, or is two such that meet.
module _ {s : List ℕ} where
  pub unbroken-none : {a : ℕ} → a ≤ length s → Unbroken s a a
  unfolding every part
  unbroken-none {a} fits = let none : a - a ≡ 0 = omega arith in record { low = omega arith; high = fits; bytes = rw none }

  pub unbroken-both : {a m e : ℕ} → Unbroken s a m → Unbroken s m e → Unbroken s a e
  unfolding part
  unbroken-both {a} {m} {e} front behind =
      let whole : e - a ≡ (m - a) + (e - m) = omega arith in
      let middle : a + (m - a) ≡ m = omega arith in
      record {
        low = omega arith;
        high = behind.high;
        bytes =
            rw (whole, take-add, drop-drop, middle)
            (every-both within-line (take (m - a) (drop a s)) (take (e - m) (drop m s)) front.bytes behind.bytes);
      }

  -- A stretch is a run without a newline at its place.
  pub unbroken-run : (run behind : List ℕ) {a e : ℕ} → drop a s ≡ run ++ behind → every within-line run ≡ true → a ≤ length s
      → e ≡ a + length run → Unbroken s a e
  unfolding part
  unbroken-run run behind {a} {e} parts none fits end =
      let size : e - a ≡ length run = omega arith in record {
        low = omega arith;
        high = omega (arith, length-drop a s, ap length parts, length-append run behind);
        bytes = rw (size, parts, take_at run behind (length run) refl) none;
      }

  -- And so are bytes none of which is a newline.
  pub unbroken-bytes : {a e : ℕ} → a ≤ e → e ≤ length s → ((k : ℕ) → a ≤ k → k < e → get_or s k 0 ≡ newline → ⊥) → Unbroken s a e
  unfolding part
  unbroken-bytes {a} {e} low high other = record {
    low = low;
    high = high;
    bytes =
        at_every within-line (part a (e - a) s)
        (λ j inside.
        let near : j < e - a = omega (arith, length_part a (e - a) s (omega arith)) in
        let byte : get_or (part a (e - a) s) j 0 ≡ get_or s (a + j) 0 = get_or-take (e - a) (drop a s) j 0 near ∙ get_or-drop a s j 0 in
        rw byte (ap not (ne_eqb (get_or s (a + j) 0) newline (other (a + j) (omega arith) (omega arith)))));
  }

-- ---- Block by block

-- There is no newline from place a up to place i, and behind it the blocks are left.
pub record Onward (s : List ℕ) (a i : ℕ) (left : List ℕ) : Type 0 where
  pub unbroken : Unbroken s a i
  pub behind : drop i s ≡ left

-- There is no newline from place i on, and in front of it the blocks are left.
pub record Backward (s : List ℕ) (i : ℕ) (left : List ℕ) : Type 0 where
  pub unbroken : Unbroken s i (length s)
  pub front : take i s ≡ left

module _ {s : List ℕ} where
  pub onward_start : {a : ℕ} {left : List ℕ} → a ≤ length s → left ≡ drop a s → Onward s a a left
  onward_start fits all = record { unbroken = unbroken-none fits; behind = sym all }

  pub backward_start : {left : List ℕ} → s ≡ left → Backward s (length s) left
  backward_start all = record { unbroken = unbroken-none (omega arith); front = take-length s ∙ all }

  -- The next block from the front, or from the back, has none.
  module _ (block rest : List ℕ) {left : List ℕ} {i : ℕ} where
    module _ {a : ℕ} (so_far : Onward s a i left) (parts : left ≡ block ++ rest) where
      pub onward_more : {found : Bool} → found ≡ not (every within-line block) → found ≡ false → Onward s a (i + length block) rest
      onward_more tested none = record {
        unbroken =
            unbroken-both so_far.unbroken
            (unbroken-run block rest (so_far.behind ∙ parts) (not-false _ (sym tested ∙ none)) so_far.unbroken.high refl);
        behind = sym (drop-drop (length block) i s) ∙ ap (drop (length block)) (so_far.behind ∙ parts) ∙ drop_at block rest (length block) refl;
      }

    module _ (so_far : Backward s i left) (parts : left ≡ rest ++ block) where
      sizes : length rest + length block ≡ i
      sizes = omega (arith, so_far.unbroken.low, length-take-le i s so_far.unbroken.low, ap length (so_far.front ∙ parts), length-append rest block)

      pub backward_fits : length block ≤ i
      backward_fits = omega (arith, sizes)

      pub backward_more : {found : Bool} → found ≡ not (every within-line block) → found ≡ false → Backward s (i - length block) rest
      backward_more tested none =
          let whole : s ≡ rest ++ (block ++ drop i s) =
          sym (take-append-drop i s) ∙ ap (λ t. t ++ drop i s) (so_far.front ∙ parts) ∙ append_assoc rest block (drop i s) in
          let place : i - length block ≡ length rest = omega (arith, sizes) in
          let behind : drop (i - length block) s ≡ block ++ drop i s =
          ap (λ k. drop k s) place ∙ ap (drop (length rest)) whole ∙ drop_at rest (block ++ drop i s) (length rest) refl in
          record {
            unbroken =
                unbroken-both
                (unbroken-run block (drop i s) behind (not-false _ (sym tested ∙ none)) (omega (arith, so_far.unbroken.low)) (omega (arith, backward_fits)))
                so_far.unbroken;
            front = ap (λ k. take k s) place ∙ ap (take (length rest)) whole ∙ take_at rest (block ++ drop i s) (length rest) refl;
          }

-- ---- The newline at the end of a stretch

-- Behind the stretch the first newline is looked for byte by byte.
module _ {s : List ℕ} {i : ℕ} where
  module _ {a : ℕ} (so_far : Unbroken s a i) {t : List ℕ} (lent : t ≡ drop i s) where
    size : length t + i ≡ length s
    size = omega (arith, ap length lent, length-drop i s, so_far.high)

    byte : (k : ℕ) → get_or t k 0 ≡ get_or s (i + k) 0
    byte k = ap (λ u. get_or u k 0) lent ∙ get_or-drop i s k 0

    pub unbroken-until : (end : ℕ) → end ≤ length t → ((k : ℕ) → k < end → get_or t k 0 ≡ newline → ⊥) → Unbroken s a (i + end)
    unbroken-until end inside other =
        unbroken-both so_far
        (unbroken-bytes (omega arith) (omega (arith, size))
        (λ k low high e. let place : i + (k - i) ≡ k = omega arith in
        other (k - i) (omega arith) (byte (k - i) ∙ ap (λ j. get_or s j 0) place ∙ e)))

    pub unbroken-rest : ((k : ℕ) → k < length t → get_or t k 0 ≡ newline → ⊥) → Unbroken s a (length s)
    unbroken-rest other =
        let whole : i + length t ≡ length s = omega (arith, size) in rw whole at (unbroken-until (length t) (omega arith) other)

    pub newline-behind : (end : ℕ) → get_or t end 0 ≡ newline → get_or s (i + end) 0 ≡ newline
    newline-behind end e = sym (byte end) ∙ e

-- There is no newline from place i on: the byte before it decides, or nothing is before it.
module _ {s : List ℕ} {i : ℕ} (n : ℕ) (so_far : Unbroken s i (length s)) where
  rest : since_after n s ≡ since_after n (take i s) + (length s - i)
  unfolding part
  rest =
      let behind : every within-line (drop i s) ≡ true = rw part_to_end at so_far.bytes in
      ap (since_after n) (sym (take-append-drop i s))
      ∙ since-append n (take i s) (drop i s)
      ∙ since-unbroken _ (drop i s) (no-newlines (drop i s) behind)
      ∙ rw length-drop

  since_none : i ≤ 0 → n + length s ≡ since_after n s
  unfolding since_after
  since_none end = let none : i ≡ 0 = omega arith in sym (rest ∙ rw none (omega arith))

  since-found : 0 < i → get_or s (i - 1) 0 ≡ newline → length s - i ≡ since_after n s
  unfolding since_after
  since-found more e =
      let same : i ≡ suc (i - 1) = omega arith in
      let last = take-suc s (i - 1) 0 (omega arith) in
      let front : since_after n (take i s) ≡ 0 = ap (λ k. since_after n (take k s)) same ∙ rw (last, since-append, e) in
      omega (arith, rest)

-- In front of that place the last newline is looked for byte by byte.
module _ {s : List ℕ} {i : ℕ} (n : ℕ) (so_far : Unbroken s i (length s)) where
  unbroken-since : (start : ℕ) → start ≤ i → ((k : ℕ) → start ≤ k → k < length (take i s) → get_or (take i s) k 0 ≡ newline → ⊥)
      → Unbroken s start (length s)
  unbroken-since start inside other =
      unbroken-both
      (unbroken-bytes inside so_far.low
      (λ k low high e. other k low (omega (arith, length-take-le i s so_far.low)) (get_or-take i s k 0 high ∙ e)))
      so_far

  pub since-last : (last : ℕ) → last < length (take i s) → get_or (take i s) last 0 ≡ newline
      → ((k : ℕ) → last < k → k < length (take i s) → get_or (take i s) k 0 ≡ newline → ⊥) → length s - (last + 1) ≡ since_after n s
  since-last last inside e other =
      let place : last + 1 - 1 ≡ last = omega arith in
      let fits : last < i = omega (arith, length-take-le i s so_far.low) in
      since-found n (unbroken-since (last + 1) (omega arith) (λ k low high. other k (omega arith) high)) (omega arith)
      (ap (λ k. get_or s k 0) place ∙ sym (get_or-take i s last 0 fits) ∙ e)

  pub since-start : ((k : ℕ) → k < length (take i s) → get_or (take i s) k 0 ≡ newline → ⊥) → n + length s ≡ since_after n s
  since-start other = since_none n (unbroken-since 0 (omega arith) (λ k low high. other k high)) (omega arith)
