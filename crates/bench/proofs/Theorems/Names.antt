-- Each key has a name, no two keys have the same, and nothing else names a key. (01, the bench program: keys.)
use mathlib.Core.Path.{◌≡◌, refl, sym, ap, ◌∙◌}
use mathlib.Core.Logic.{⊎_elim}
use mathlib.Core.Bool.{cond, false≢true}
use mathlib.Core.List.{List, [], ◌∷◌, ◌++◌, map}
use Prim.Native.Nat.{ℕ}
use Prim.Native.String.{String}
use lib.Dec.{leb}
use lib.ListN.{drop, get_or, get_or-map}
use Rattle.gap.specs.Rules.Sequence.{every, same_bytes, begins, counted}
use Rattle.gap.specs.Rules.Strings.{bytes}
use Rattle.gap.specs.Rules.Nearest.{nearest}
use Rattle.gap.specs.Rules.Decimal.{value_after, is_number, number_of, digits_in, decimal}
use Rattle.gap.proofs.Laws.Tests.{decided, cond-true, cond-false}
use Rattle.gap.proofs.Laws.Sequence.{same-equal, begins-split}
use Rattle.gap.proofs.Laws.Nearest.{reached-least}
use Rattle.gap.proofs.Theorems.Decimals.{read-written}
use Rattle.bench.specs.Words.{Left, Right, Key, Insert, Function, Recall, Quote, Find, Replace, Mark, Cut, Paste, Newline, Tab}
use Rattle.bench.specs.Words.{Option, Some, None}
use Rattle.bench.specs.Rules.Names.{name_of, combinations, combination_at, function_of, at_row, function_named, insert_numbered}
use Rattle.bench.specs.Rules.Names.{indent_named, mark_named, key_named}

abbrev pub key_name : Key → List ℕ
key_name (Insert b) = bytes "insert-" ++ decimal b
key_name (Function action way place) = name_of (record { action = action; direction = way; place = place })
key_name Recall = bytes "recall"
key_name Quote = bytes "quote"
key_name (Find Right) = bytes "find"
key_name (Find Left) = bytes "upfind"
key_name Replace = bytes "replace"
key_name Mark = bytes "mark"
key_name Cut = bytes "cut"
key_name Paste = bytes "paste"
key_name Newline = bytes "newline"
key_name Tab = bytes "tab"

-- The inserts of all bytes, the 20 function keys, and the ten others.
unfoldable pub all_keys : List Key
all_keys =
    map Insert (counted 256 0)
    ++ (map function_of combinations ++ (Recall ∷ Quote ∷ Find Right ∷ Find Left ∷ Replace ∷ Mark ∷ Cut ∷ Paste ∷ Newline ∷ Tab ∷ []))

abbrev pub key_at : ℕ → Key
key_at i = get_or all_keys i Recall

-- One test, computed over all of them.
all_named : map (λ k. key_named (key_name k)) all_keys ≡ map Some all_keys
unfolding every same_bytes begins counted bytes nearest value_after is_number number_of digits_in decimal combinations function_named indent_named mark_named
    key_named all_keys
all_named = refl

recall-named : key_named (key_name Recall) ≡ Some Recall
unfolding same_bytes begins bytes key_named
recall-named = refl

-- The name of a key names that key.
pub each-named : (i : ℕ) → key_named (key_name (key_at i)) ≡ Some (key_at i)
each-named i =
    sym (get_or-map (λ k. key_named (key_name k)) all_keys i Recall)
    ∙ ap (λ s. get_or s i (key_named (key_name Recall))) all_named
    ∙ ap (get_or (map Some all_keys) i) recall-named
    ∙ get_or-map Some all_keys i Recall

-- So keys that have the same name are the same key: no name of a function key is that of another, one of the ten words, or an insert's.
pub no-two-alike : (i j : ℕ) → key_name (key_at i) ≡ key_name (key_at j) → key_at i ≡ key_at j
no-two-alike i j same = let named = sym (each-named i) ∙ ap key_named same ∙ each-named j in cc named

-- And what names a key is its name, whatever bytes it is made of.
abbrev Only : List ℕ → Key → Option Key → Type 0
Only name k naming = naming ≡ Some k → name ≡ key_name k

module _ (name : List ℕ) (k : Key) where
  one_key : (j : Key) → Some j ≡ Some k → j ≡ k
  one_key j e = cc e

  no_key : {A : Type 0} → None ≡ Some k → A
  no_key e = absurd (false≢true cc)

  only-word : (word : String) (j : Key) {other : Option Key} → key_name j ≡ bytes word → Only name k other
      → Only name k (cond (same_bytes name (bytes word)) (Some j) other)
  only-word word j named otherwise e =
      ⊎_elim
      (λ same. same-equal name (bytes word) same ∙ sym named ∙ ap key_name (one_key j (sym (cond-true _ _ same) ∙ e)))
      (λ differs. otherwise (sym (cond-false _ _ differs) ∙ e))
      (decided (same_bytes name (bytes word)))

  only_row : (found : Option ℕ) → nearest (λ i. same_bytes name (name_of (combination_at i))) 20 0 ≡ found → Only name k (at_row found)
  only_row (Some i) at e = same-equal name (name_of (combination_at i)) (reached-least _ 20 0 i at).passes ∙ ap key_name (one_key _ e)
  only_row None at e = no_key e

  only-number : (number : Option ℕ) → number_of 5 (drop 7 name) ≡ number → insert_numbered number ≡ Some k → bytes "insert-" ++ drop 7 name ≡ key_name k
  only-number (Some n) read e =
      ⊎_elim
      (λ small.
      ap (λ digits. bytes "insert-" ++ digits) (sym (read-written 5 (drop 7 name) n read))
      ∙ ap key_name (one_key (Insert n) (sym (cond-true _ _ small) ∙ e)))
      (λ large. no_key (sym (cond-false _ _ large) ∙ e))
      (decided (leb n 255))
  only-number None read e = no_key e

  only-insert : {other : Option Key} → Only name k other
      → Only name k (cond (begins (bytes "insert-") name) (insert_numbered (number_of 5 (drop 7 name))) other)
  unfolding bytes
  only-insert otherwise e =
      ⊎_elim
      (λ so. begins-split (bytes "insert-") name so ∙ only-number (number_of 5 (drop 7 name)) refl (sym (cond-true _ _ so) ∙ e))
      (λ not_so. otherwise (sym (cond-false _ _ not_so) ∙ e))
      (decided (begins (bytes "insert-") name))

  pub named-only : key_named name ≡ Some k → name ≡ key_name k
  unfolding function_named indent_named mark_named key_named
  named-only =
      only-insert
      (only-word "recall" Recall refl
      (only-word "quote" Quote refl
      (only-word "find" (Find Right) refl
      (only-word "upfind" (Find Left) refl
      (only-word "replace" Replace refl
      (only-word "mark" Mark refl
      (only-word "cut" Cut refl
      (only-word "paste" Paste refl (only-word "newline" Newline refl (only-word "tab" Tab refl (only_row _ refl)))))))))))
