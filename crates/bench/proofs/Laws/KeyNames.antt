-- Laws of names: how the code compares two runs, and how it searches the key table for a name.
use mathlib.Core.Path.{◌≡◌, refl, sym, ap, ◌∙◌}
use mathlib.Core.Bool.{Bool, true, false, cond, ◌&&◌}
use mathlib.Core.List.{List, [], ◌∷◌, map}
use Prim.Native.Nat.{ℕ, zero, suc}
use native.Mathlib.Omega.{arith}
use lib.Dec.{eqb}
use lib.ListN.{length, take, drop}
use Rattle.std.specs.Prelude.{nat_eq}
use Rattle.std.specs.List.{find}
use Rattle.std.specs.Option.{option_map}
use Rattle.std.specs.Cmp.Lexicographic.{pointwise}
use Rattle.std.proofs.Common.{Bor}
use Rattle.std.proofs.lemmas.Bool.Decides.{nat_tests}
use Rattle.gap.specs.Rules.Sequence.{same_bytes, begins}
use Rattle.gap.specs.Rules.Strings.{bytes}
use Rattle.gap.specs.Rules.Nearest.{nearest}
use Rattle.gap.specs.Rules.Decimal.{number_of}
use Rattle.bench.specs.Words.{Option, Some, None}
use Rattle.bench.specs.Words.{Left, Right, Key, Recall, Quote, Find, Replace, Mark, Cut, Paste, Newline, Tab}
use Rattle.bench.specs.Rules.Names.{Entry, combinations, combination_at, entry_of, at_row, function_named}
use Rattle.bench.specs.Rules.Names.{most_digits, insert_numbered, indent_named, mark_named, key_named}
use Rattle.bench.specs.Wording.Rows.{key_in}

-- ---- Runs compared

-- The code's comparison of two runs is the rule's, either way round.
compared : (s t : List ℕ) → pointwise nat_eq s t ≡ same_bytes s t
unfolding same_bytes
compared [] [] = refl
compared [] (b ∷ t) = refl
compared (a ∷ s) [] = refl
compared (a ∷ s) (b ∷ t) = ap (λ rest. eqb a b && rest) (compared s t)

either_way : (a b : ℕ) → eqb a b ≡ eqb b a
either_way a b = grind (arith, nat_tests)

turned : (s t : List ℕ) → same_bytes s t ≡ same_bytes t s
unfolding same_bytes
turned [] [] = refl
turned [] (b ∷ t) = refl
turned (a ∷ s) [] = refl
turned (a ∷ s) (b ∷ t) = rw (either_way a b, turned s t) refl

-- So is its test of a run's front.
pub fronted : (word s : List ℕ) → pointwise nat_eq (take (length word) s) word ≡ begins word s
unfolding begins
fronted word s = compared (take (length word) s) word ∙ turned (take (length word) s) word

-- ---- The key table

-- The key of the first row that has the name.
looked_up : List ℕ → List Entry → Option Key
looked_up name [] = None
looked_up name (row ∷ rows) = cond (same_bytes name row.name) (Some row.key) (looked_up name rows)

-- The rows as the code has them, with the bytes that they lend.
abbrev rows_lent : List (Bor (List ℕ) × Key) → List Entry
rows_lent rows = map (λ row. record { name = row.0.now; key = row.1 }) rows

first : {A B : Type 0} (f : A → B) (ok : Bool) (x : A) (rest : Option A) → option_map f (cond ok (Some x) rest) ≡ cond ok (Some (f x)) (option_map f rest)
first f ok x rest = elim ok as (λ t. option_map f (cond t (Some x) rest) ≡ cond t (Some (f x)) (option_map f rest)) [ true ↦ refl | false ↦ refl ]

searched : (name : List ℕ) (rows : List (Bor (List ℕ) × Key)) → key_in name rows ≡ looked_up name (rows_lent rows)
unfolding key_in looked_up
searched name [] = refl
searched name (row ∷ rows) =
    first (λ r. r.1) (pointwise nat_eq name row.0.now) row (find (λ r. pointwise nat_eq name r.0.now) rows)
    ∙ ap (λ ok. cond ok (Some row.1) (key_in name rows)) (compared name row.0.now)
    ∙ ap (cond (same_bytes name row.0.now) (Some row.1)) (searched name rows)

-- The rows of the function keys say what the rule of their names does: of n combinations from the k-th on, the first that has the name.
module _ (name : List ℕ) where
  abbrev is_name : ℕ → Bool
  is_name i = same_bytes name (entry_of (combination_at i)).name

  from_row : ℕ → ℕ → Option Key
  from_row zero k = None
  from_row (suc n) k = cond (is_name k) (Some (entry_of (combination_at k)).key) (from_row n (suc k))

  at_first : (ok : Bool) (i : ℕ) (rest : Option ℕ) → at_row (cond ok (Some i) rest) ≡ cond ok (Some (entry_of (combination_at i)).key) (at_row rest)
  at_first true i rest = refl
  at_first false i rest = refl

  nearest_row : (n k : ℕ) → at_row (nearest is_name n k) ≡ from_row n k
  unfolding nearest from_row
  nearest_row zero k = refl
  nearest_row (suc n) k =
      at_first (is_name k) k (nearest is_name n (suc k))
      ∙ ap (cond (is_name k) (Some (entry_of (combination_at k)).key)) (nearest_row n (suc k))

  all_rows : from_row 20 0 ≡ looked_up name (map entry_of combinations)
  unfolding from_row looked_up combinations
  all_rows = refl

  functions : looked_up name (map entry_of combinations) ≡ function_named name
  unfolding function_named
  functions = sym all_rows ∙ sym (nearest_row 20 0)

-- The table: the ten words, and the function keys.
abbrev table : List Entry
table =
    record { name = bytes "recall"; key = Recall }
    ∷ record { name = bytes "quote"; key = Quote }
    ∷ record { name = bytes "find"; key = Find Right }
    ∷ record { name = bytes "upfind"; key = Find Left }
    ∷ record { name = bytes "replace"; key = Replace }
    ∷ record { name = bytes "mark"; key = Mark }
    ∷ record { name = bytes "cut"; key = Cut }
    ∷ record { name = bytes "paste"; key = Paste }
    ∷ record { name = bytes "newline"; key = Newline }
    ∷ record { name = bytes "tab"; key = Tab }
    ∷ map entry_of combinations

-- A name that does not begin as an insert's names what its row does.
pub named-in : (name : List ℕ) (rows : List (Bor (List ℕ) × Key)) → rows_lent rows ≡ table → begins (bytes "insert-") name ≡ false
    → key_in name rows ≡ key_named name
unfolding looked_up key_named mark_named indent_named
named-in name rows same other = searched name rows ∙ ap (looked_up name) same ∙ rw (other, ← functions name) refl

-- Behind `insert-` stands the number.
pub named-insert : (name : List ℕ) {digits : List ℕ} {number : Option ℕ} {key : Option Key}
    → pointwise nat_eq (take 7 name) (bytes "insert-") ≡ true → digits ≡ drop 7 name
    → number ≡ number_of most_digits digits → key ≡ insert_numbered number → key ≡ key_named name
unfolding bytes key_named
named-insert name so behind read made =
    rw (sym (fronted (bytes "insert-") name) ∙ so) (made ∙ ap insert_numbered (read ∙ ap (number_of most_digits) behind))
