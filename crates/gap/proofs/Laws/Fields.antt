-- Laws of lines that begin with a word, and of the number behind it.
use Rattle.std.proofs.Common.{Option, None}
use mathlib.Core.Path.{◌≡◌, sym, ap, ◌∙◌}
use mathlib.Core.Bool.{Bool, true, false, not, cond}
use mathlib.Core.List.{List}
use Prim.Native.Nat.{ℕ, ◌-◌, ◌≤◌, ◌<◌}
use lib.Dec.{eqb, ltb}
use lib.Pointwise.{pointwise}
use lib.ListN.{length, take, drop}
use borrow.Author.Tests.{lt-ltb, le-ltb, not-true, not-false}
use borrow.Rule.Slice.PartMut.{mid_of}
use Rattle.gap.specs.Rules.Sequence.{begins}
use Rattle.gap.specs.Rules.Fields.{end_at, field_of, header_at}
use Rattle.gap.proofs.Laws.Tests.{cond-true, cond-false}
use Rattle.gap.proofs.Laws.Runs.{tail_of, tail-lent}
use Rattle.gap.proofs.Laws.Compared.{pointwise_same, same_swapped, begins-fits}
use Rattle.gap.proofs.Laws.LinePlaces.{line-lent}

-- A line that begins with a word is as long.
module _ (word line : List ℕ) {yes : Bool} (known : yes ≡ begins word line) where
  pub word_fits : not yes ≡ false → length word ≤ length line
  word_fits there = begins-fits word line (sym known ∙ not-false _ there)

  -- What is read behind the word, as code lends it, or that the word is missing.
  module _ {A : Type 0} (reading : List ℕ → A) (none : A) where
    pub word_none : not yes ≡ true → none ≡ cond (begins word line) (reading (drop (length word) line)) none
    word_none missing = sym (cond-false _ _ (sym known ∙ not-true _ missing))

    pub word_read : {result : A} → not yes ≡ false → result ≡ reading (tail_of (length word) line)
        → result ≡ cond (begins word line) (reading (drop (length word) line)) none
    word_read there e = e ∙ ap reading (tail-lent (length word) line) ∙ sym (cond-true _ _ (sym known ∙ not-false _ there))

-- What `strip_prefix` answers of such a line: what stands behind the word is read, or the word is missing.
module _ (word line : List ℕ) where
  stripped : pointwise eqb (take (length word) line) word ≡ begins word line
  unfolding begins
  stripped = pointwise_same _ word ∙ same_swapped _ word

  module _ {A : Type 0} (reading : List ℕ → A) (none : A) where
    pub prefix-none : pointwise eqb (take (length word) line) word ≡ false → none ≡ cond (begins word line) (reading (drop (length word) line)) none
    prefix-none missing = sym (cond-false _ _ (sym stripped ∙ missing))

    pub prefix_read : pointwise eqb (take (length word) line) word ≡ true → {rest : List ℕ} → rest ≡ drop (length word) line
        → {result : A} → result ≡ reading rest → result ≡ cond (begins word line) (reading (drop (length word) line)) none
    prefix_read there behind e = e ∙ ap reading behind ∙ sym (cond-true _ _ (sym stripped ∙ there))

-- A line without a newline, and one that has it.
module _ (s : List ℕ) (at : ℕ) {end : ℕ} (ends : end ≡ end_at s at) (word : List ℕ) (most : ℕ) where
  pub header-cut : length s ≤ end → None ≡ header_at word most s at
  unfolding header_at
  header-cut none = sym (cond-false _ _ (ap (λ e. ltb e (length s)) (sym ends) ∙ le-ltb _ _ none))

  pub header_read : {n : Option ℕ} → end < length s → n ≡ field_of word most (mid_of at (end - at) s) → n ≡ header_at word most s at
  unfolding header_at
  header_read more e =
      e ∙ ap (field_of word most) (line-lent s at ends)
      ∙ sym (cond-true _ _ (ap (λ e. ltb e (length s)) (sym ends) ∙ lt-ltb _ _ more))
