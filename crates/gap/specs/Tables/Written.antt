-- How the tables write documents and stores, and how they compare what a definition gives.
use Rattle.std.specs.Prelude.{List, [], ◌∷◌, ◌++◌, Bool, true, false, ◌&&◌, cond, ℕ, eqb, Option, Some, None}
use Prim.Native.String.{String}
use Rattle.gap.specs.Rules.Sequence.{same_bytes}
use Rattle.gap.specs.Rules.Strings.{bytes}
use Rattle.gap.specs.Rules.Doc.{Doc}

-- A document written with `|` (124) at its cursor.
unfoldable pub marked_after : List ℕ → List ℕ → Doc
marked_after l [] = record { l = l; r = [] }
marked_after l (b ∷ s) = cond (eqb b 124) (record { l = l; r = s }) (marked_after (l ++ (b ∷ [])) s)

abbrev pub marked : String → Doc
marked s = marked_after [] (bytes s)

-- A store written with `_` (95) for each free byte.
unfoldable pub stored_as : List ℕ → List ℕ
stored_as [] = []
stored_as (b ∷ s) = cond (eqb b 95) 0 b ∷ stored_as s

abbrev pub stored : String → List ℕ
stored s = stored_as (bytes s)

abbrev pub is_bytes : List ℕ → String → Bool
is_bytes s t = same_bytes s (bytes t)

abbrev pub is_store : List ℕ → String → Bool
is_store s t = same_bytes s (stored t)

abbrev pub same_doc : Doc → Doc → Bool
same_doc d e = same_bytes d.l e.l && same_bytes d.r e.r

abbrev pub is_doc : Doc → String → Bool
is_doc d s = same_doc d (marked s)

abbrev pub same_bool : Bool → Bool → Bool
same_bool true b = b
same_bool false true = false
same_bool false false = true

abbrev pub is_reached : Option ℕ → ℕ → Bool
is_reached (Some n) m = eqb n m
is_reached None m = false

abbrev pub is_nowhere : Option ℕ → Bool
is_nowhere (Some n) = false
is_nowhere None = true

abbrev pub is_read : Option ℕ → ℕ → Bool
is_read (Some n) m = eqb n m
is_read None m = false

abbrev pub is_unreadable : Option ℕ → Bool
is_unreadable (Some n) = false
is_unreadable None = true
