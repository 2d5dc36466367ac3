-- How any script is read behind its header. (01, the bench program.)
use mathlib.Core.Path.{◌≡◌, refl, sym, ap, ◌∙◌}
use mathlib.Core.Logic.{⊎_elim}
use mathlib.Core.Bool.{true, false≢true}
use mathlib.Core.List.{List, ◌++◌}
use Prim.Native.Nat.{ℕ, ◌+◌, ◌≤◌, ◌<◌}
use lib.Dec.{ltb}
use lib.ListN.{length, drop, get_or}
use borrow.Author.Tests.{ltb-true, lt-ltb, le-ltb, eqb-true, eq-eqb}
use Rattle.gap.specs.Rules.Sequence.{same_bytes, begins}
use Rattle.gap.specs.Rules.Strings.{bytes}
use Rattle.gap.specs.Rules.Fields.{line_at, next_at}
use Rattle.gap.proofs.Laws.Tests.{decided, and_left, and_right, and_both, cond-true, cond-false}
use Rattle.gap.proofs.Laws.Sequence.{begins-split}
use Rattle.bench.specs.Words.{Some, None, Key, Pressed, Finished, Unknown}
use Rattle.bench.specs.Rules.Names.{key_named}
use Rattle.bench.specs.Rules.Script.{text_there, key_of, read_as, reading_at}
use Rattle.bench.proofs.Theorems.Names.{key_name, named-only}

-- n bytes of text, and a newline behind them.
pub text-there : (s : List ℕ) (at n : ℕ)
    → (text_there s at n ≡ true → (at + n < length s) × (get_or s (at + n) 0 ≡ 10))
    × (at + n < length s → get_or s (at + n) 0 ≡ 10 → text_there s at n ≡ true)
unfolding text_there
text-there s at n = (
  λ e. (ltb-true (at + n) (length s) (and_left (ltb (at + n) (length s)) _ e), eqb-true _ 10 (and_right (ltb (at + n) (length s)) _ e)),
  λ inside e. and_both (lt-ltb (at + n) (length s) inside) (eq-eqb _ 10 e),
)

-- A key line is `key=` and the name of a key, and no other line is.
pub key-line : (name : List ℕ) → key_of (bytes "key=" ++ name) ≡ key_named name
unfolding same_bytes begins bytes key_of
key-line name = refl

pub key-lines-only : (line : List ℕ) (k : Key) → key_of line ≡ Some k → line ≡ bytes "key=" ++ key_name k
unfolding bytes key_of
key-lines-only line k e =
    ⊎_elim
    (λ so.
    begins-split (bytes "key=") line so
    ∙ ap (λ name. bytes "key=" ++ name) (named-only (drop 4 line) k (sym (cond-true _ _ so) ∙ e)))
    (λ not_so. let none : None ≡ Some k = sym (cond-false _ _ not_so) ∙ e in absurd (false≢true cc))
    (decided (begins (bytes "key=") line))

-- Each line is read as what it names, and the next one follows it; behind the input there is none.
pub lines-read : (s : List ℕ) (at : ℕ)
    → (at < length s
    → ((k : Key) → key_of (line_at s at) ≡ Some k → reading_at s at ≡ Pressed k (next_at s at))
    × (key_of (line_at s at) ≡ None → reading_at s at ≡ Unknown))
    × (length s ≤ at → reading_at s at ≡ Finished)
unfolding reading_at
lines-read s at = (
  λ inside.
      let is-line = cond-true (read_as (key_of (line_at s at)) (next_at s at)) Finished (lt-ltb at (length s) inside) in
      (λ k e. is-line ∙ ap (λ naming. read_as naming (next_at s at)) e, λ e. is-line ∙ ap (λ naming. read_as naming (next_at s at)) e),
  λ behind. cond-false _ _ (le-ltb at (length s) behind),
)
