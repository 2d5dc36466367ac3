-- Sentences of the documents, each with examples that its definition must give: a definition that says something else fails one of
-- them, even where the code is changed with it.
use Rattle.std.specs.Prelude.{List, [], ◌∷◌, Bool, true, ◌&&◌, cond}
use Prim.Native.String.{String}

-- A sentence in our words, and its examples.
pub record Sentence (A : Type 0) : Type 0 where
  pub says : String
  pub examples : List A

abbrev pub sentence : {A : Type 0} → String → List A → Sentence A
sentence says examples = record { says = says; examples = examples }

unfoldable pub all_of : {A : Type 0} → (A → Bool) → List A → Bool
all_of test [] = true
all_of test (x ∷ xs) = test x && all_of test xs

-- The sentences of which an example fails a test. A table is right where there are none, and where there are, the checker's message
-- has their words.
unfoldable pub broken : {A : Type 0} → (A → Bool) → List (Sentence A) → List String
broken test [] = []
broken test (s ∷ rest) = cond (all_of test s.examples) (broken test rest) (s.says ∷ broken test rest)

-- Examples that are tests already.
abbrev pub itself : Bool → Bool
itself b = b
