-- The names of the keys. (01, the bench program: keys.)
use Rattle.std.specs.Prelude.{List, [], ◌∷◌, ◌++◌, map, cond, ℕ, leb, drop, get_or}
use Prim.Native.String.{String}
use Rattle.bench.specs.Words.{Option, Some, None}
use Rattle.bench.specs.Words.{Direction, Left, Right, Action, Move, Delete}
use Rattle.bench.specs.Words.{Place, Character, Word, LineBeginning, LineEnding, Document, Key, Insert, Function, Recall, Quote}
use Rattle.bench.specs.Words.{Find, Replace, Mark, Cut, Paste, Newline, Tab}
use Rattle.gap.specs.Rules.Sequence.{same_bytes, begins}
use Rattle.gap.specs.Rules.Strings.{bytes}
use Rattle.gap.specs.Rules.Nearest.{nearest}
use Rattle.gap.specs.Rules.Decimal.{number_of}

-- ---- Function keys

abbrev pub action_name : Action → String
action_name Move = "move"
action_name Delete = "delete"

abbrev pub direction_name : Direction → String
direction_name Left = "left"
direction_name Right = "right"

abbrev pub place_name : Place → String
place_name Character = "character"
place_name Word = "word"
place_name LineBeginning = "line-begin"
place_name LineEnding = "line-end"
place_name Document = "document"

-- Action, direction and place, joined by `-` (45).
pub record Combination : Type 0 where
  pub action : Action
  pub direction : Direction
  pub place : Place

abbrev pub name_of : Combination → List ℕ
name_of c =
    bytes (action_name c.action)
    ++ (45 ∷ (bytes (direction_name c.direction) ++ (45 ∷ bytes (place_name c.place))))

-- All 20, the two that get KEY among them: they have names too. (01, plain editor: 20 combinations. DECISIONS A10.)
abbrev pub to_places : Action → Direction → List Combination
to_places action way =
    map (λ place. record { action = action; direction = way; place = place })
    (Character ∷ Word ∷ LineBeginning ∷ LineEnding ∷ Document ∷ [])

unfoldable pub combinations : List Combination
combinations = to_places Move Left ++ (to_places Move Right ++ (to_places Delete Left ++ to_places Delete Right))

abbrev pub combination_at : ℕ → Combination
combination_at i = get_or combinations i (record { action = Move; direction = Left; place = Character })

abbrev pub function_of : Combination → Key
function_of c = Function c.action c.direction c.place

-- A row of the constant table: a name, and the key that it names.
pub record Entry : Type 0 where
  pub name : List ℕ
  pub key : Key

abbrev pub entry_of : Combination → Entry
entry_of c = record { name = name_of c; key = function_of c }

-- ---- Any key

abbrev pub at_row : Option ℕ → Option Key
at_row (Some i) = Some (entry_of (combination_at i)).key
at_row None = None

unfoldable pub function_named : List ℕ → Option Key
function_named name = at_row (nearest (λ i. same_bytes name (entry_of (combination_at i)).name) 20 0)

-- How many digits a number may have. (01, the bench program: numbers.)
abbrev pub most_digits : ℕ
most_digits = 5

-- An insert's number is a byte. Whether the byte is allowed is the core's to say. (01, the bench program: at most 255. DECISIONS A9.)
abbrev pub insert_numbered : Option ℕ → Option Key
insert_numbered (Some n) = cond (leb n 255) (Some (Insert n)) None
insert_numbered None = None

-- The keys that indent. (02, M-105. DECISIONS C6.)
unfoldable pub indent_named : List ℕ → Option Key
indent_named name =
    cond (same_bytes name (bytes "newline")) (Some Newline) (cond (same_bytes name (bytes "tab")) (Some Tab) (function_named name))

-- The keys about the mark. (02, M-101. DECISIONS C6.)
unfoldable pub mark_named : List ℕ → Option Key
mark_named name =
    cond (same_bytes name (bytes "mark")) (Some Mark)
    (cond (same_bytes name (bytes "cut")) (Some Cut) (cond (same_bytes name (bytes "paste")) (Some Paste) (indent_named name)))

unfoldable pub key_named : List ℕ → Option Key
key_named name =
    cond (begins (bytes "insert-") name) (insert_numbered (number_of most_digits (drop 7 name)))
    (cond (same_bytes name (bytes "recall")) (Some Recall)
    (cond (same_bytes name (bytes "quote")) (Some Quote)
    (cond (same_bytes name (bytes "find")) (Some (Find Right))
    (cond (same_bytes name (bytes "upfind")) (Some (Find Left))
    (cond (same_bytes name (bytes "replace")) (Some Replace) (mark_named name))))))
