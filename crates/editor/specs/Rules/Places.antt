-- The five kinds of place, each a test of a document. (01, plain editor: places.)
use Rattle.std.specs.Prelude.{List, [], ◌∷◌, Bool, true, false, cond, ℕ, eqb}
use Rattle.editor.specs.Words.{Direction, Left, Right}
use Rattle.editor.specs.Words.{Place, Character, Word, LineBeginning, LineEnding, Document}
use Rattle.editor.specs.Words.{Neighbour}
use Rattle.editor.specs.declared.Neighbour.TheVariants.{Nothing, Space, Newline, Other}
use Rattle.gap.specs.Rules.Sequence.{last_of}
use Rattle.gap.specs.Rules.Doc.{Doc}
use Rattle.gap.specs.Rules.Lines.{newline}

abbrev pub is_newline : ℕ → Bool
is_newline b = eqb b newline

-- There is no byte here, or the first one passes.
abbrev pub empty_or : (ℕ → Bool) → List ℕ → Bool
empty_or test [] = true
empty_or test (b ∷ s) = test b

abbrev pub is_empty : List ℕ → Bool
is_empty [] = true
is_empty (b ∷ s) = false

-- Before the cursor: a newline, or nothing at all. (01: line beginning.)
unfoldable pub line_beginning : Doc → Bool
line_beginning d = empty_or is_newline (last_of d.l)

-- Behind the cursor: a newline, or nothing at all. (01: line ending.)
unfoldable pub line_ending : Doc → Bool
line_ending d = empty_or is_newline d.r

-- What stands beside the cursor. (02, M-102: none, space, newline, other.)
abbrev pub neighbour_of : ℕ → Neighbour
neighbour_of b = cond (eqb b 32) Space (cond (is_newline b) Newline Other)

abbrev pub first_neighbour : List ℕ → Neighbour
first_neighbour [] = Nothing
first_neighbour (b ∷ s) = neighbour_of b

abbrev pub left_of : Doc → Neighbour
left_of d = first_neighbour (last_of d.l)

abbrev pub right_of : Doc → Neighbour
right_of d = first_neighbour d.r

-- One decision for each pair: what stands left of the cursor, what stands right of it. (02, M-102: one decision per pair. That it is 01's
-- sentence is `word-sentence`, proofs/Theorems/Places.antt. DECISIONS B1.)
abbrev pub word_between : Neighbour → Neighbour → Bool
word_between Nothing Nothing = true
word_between Nothing Space = true
word_between Nothing Newline = true
word_between Nothing Other = true
word_between Space Nothing = true
word_between Space Space = false
word_between Space Newline = false
word_between Space Other = true
word_between Newline Nothing = true
word_between Newline Space = true
word_between Newline Newline = true
word_between Newline Other = true
word_between Other Nothing = false
word_between Other Space = false
word_between Other Newline = false
word_between Other Other = false

-- (01: word.)
unfoldable pub word : Doc → Bool
word d = word_between (left_of d) (right_of d)

-- The end of the text that lies in the direction. (01: document.)
unfoldable pub document_end : Direction → Doc → Bool
document_end Left d = is_empty d.l
document_end Right d = is_empty d.r

-- The test for each kind. Every document is at a character.
unfoldable pub is_at : Place → Direction → Doc → Bool
is_at Character way d = true
is_at Word way d = word d
is_at LineBeginning way d = line_beginning d
is_at LineEnding way d = line_ending d
is_at Document way d = document_end way d
