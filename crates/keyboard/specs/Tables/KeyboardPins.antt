-- What request M-107 says, each sentence with its examples, and the letters of docs/KEYBOARD.md.
use Rattle.std.specs.Prelude.{List, [], ◌∷◌, ◌++◌, map, ℕ}
use Prim.Native.String.{String}
use Rattle.gap.specs.Rules.Sequence.{counted}
use Rattle.gap.specs.Tables.Sentence.{Sentence, sentence}
use Rattle.keyboard.specs.Words.{Left, Right, Move, Delete, Received, Pressed, More, Refused}
use Rattle.keyboard.specs.Words.{Character, Word, LineBeginning, LineEnding, Document}
use Rattle.keyboard.specs.Words.{Key, Insert, Function, Recall, Quote, Find, Replace, Mark, Cut, Paste, Newline, Tab}
use Rattle.keyboard.specs.Rules.Keyboard.{escaped, arrow_keys, letter_keys, received}

-- Bytes, and what they give.
pub record Example : Type 0 where
  pub arrived : List ℕ
  pub answer : Received

abbrev pub example : List ℕ → Received → Example
example arrived answer = record { arrived = arrived; answer = answer }

-- Each sentence with the answers of its examples, and with those that the definition gives.
abbrev pub wanted : Sentence Example → Sentence Received
wanted s = sentence s.says (map (λ e. e.answer) s.examples)

abbrev pub computed : Sentence Example → Sentence Received
computed s = sentence s.says (map (λ e. received e.arrived) s.examples)

abbrev pub keyboard_pins : List (Sentence Example)
keyboard_pins =
    sentence "more needed with 0 used, also for no bytes"
    (example [] More ∷ example (27 ∷ []) More ∷ example (27 ∷ 91 ∷ []) More ∷ [])
    ∷ sentence "bytes 32 to 126 and 13 are inserts"
    (example (32 ∷ []) (Pressed (Insert 32) 1)
    ∷ example (65 ∷ 66 ∷ []) (Pressed (Insert 65) 1)
    ∷ example (91 ∷ 67 ∷ []) (Pressed (Insert 91) 1)
    ∷ example (126 ∷ 27 ∷ []) (Pressed (Insert 126) 1)
    ∷ [])
    ∷ sentence "13 inserts 10"
    (example (13 ∷ []) (Pressed (Insert 10) 1) ∷ example (13 ∷ 10 ∷ []) (Pressed (Insert 10) 1) ∷ [])
    ∷ sentence "127 is delete left character" (example (127 ∷ []) (Pressed (Function Delete Left Character) 1) ∷ [])
    ∷ sentence "ESC [ C and ESC [ D are right and left by character"
    (example (27 ∷ 91 ∷ 67 ∷ []) (Pressed (Function Move Right Character) 3)
    ∷ example (27 ∷ 91 ∷ 68 ∷ 68 ∷ []) (Pressed (Function Move Left Character) 3)
    ∷ [])
    ∷ sentence "ESC [ H and ESC [ F go to the document's beginning and end"
    (example (27 ∷ 91 ∷ 72 ∷ []) (Pressed (Function Move Left Document) 3)
    ∷ example (27 ∷ 91 ∷ 70 ∷ []) (Pressed (Function Move Right Document) 3)
    ∷ [])
    ∷ sentence "SEQUENCE, on the first byte that no key continues: byte 10, 9 and 128 up by themselves"
    (example (10 ∷ []) (Refused 9 1)
    ∷ example (9 ∷ 97 ∷ []) (Refused 9 1)
    ∷ example (0 ∷ []) (Refused 9 1)
    ∷ example (28 ∷ []) (Refused 9 1)
    ∷ example (31 ∷ 31 ∷ []) (Refused 9 1)
    ∷ example (128 ∷ []) (Refused 9 1)
    ∷ example (255 ∷ 27 ∷ []) (Refused 9 1)
    ∷ [])
    ∷ sentence "used then counts up to and including it"
    (example (27 ∷ 27 ∷ []) (Refused 9 2)
    ∷ example (27 ∷ 27 ∷ 91 ∷ 67 ∷ []) (Refused 9 2)
    ∷ example (27 ∷ 65 ∷ []) (Refused 9 2)
    ∷ example (27 ∷ 79 ∷ 72 ∷ []) (Refused 9 2)
    ∷ example (27 ∷ 13 ∷ []) (Refused 9 2)
    ∷ example (27 ∷ 127 ∷ []) (Refused 9 2)
    ∷ example (27 ∷ 118 ∷ []) (Refused 9 2)
    ∷ example (27 ∷ 91 ∷ 65 ∷ []) (Refused 9 3)
    ∷ example (27 ∷ 91 ∷ 27 ∷ 91 ∷ []) (Refused 9 3)
    ∷ example (27 ∷ 91 ∷ 91 ∷ []) (Refused 9 3)
    ∷ example (27 ∷ 91 ∷ 51 ∷ 126 ∷ []) (Refused 9 3)
    ∷ [])
    ∷ []

-- ESC and one small letter.
abbrev pub letter : String → Key → Example
letter s k = example (escaped s) (Pressed k 2)

abbrev pub letter_pins : List (Sentence Example)
letter_pins =
    sentence "moves"
    (letter "b" (Function Move Left Word)
    ∷ letter "w" (Function Move Right Word)
    ∷ letter "a" (Function Move Left LineBeginning)
    ∷ letter "e" (Function Move Right LineEnding)
    ∷ letter "k" (Function Move Left LineEnding)
    ∷ letter "j" (Function Move Right LineBeginning)
    ∷ [])
    ∷ sentence "deletions"
    (letter "d" (Function Delete Right Character)
    ∷ letter "g" (Function Delete Left Word)
    ∷ letter "h" (Function Delete Right Word)
    ∷ letter "s" (Function Delete Left LineBeginning)
    ∷ letter "l" (Function Delete Right LineEnding)
    ∷ letter "i" (Function Delete Left Document)
    ∷ letter "o" (Function Delete Right Document)
    ∷ [])
    ∷ sentence "deletions that are always refused"
    (letter "y" (Function Delete Right LineBeginning) ∷ letter "z" (Function Delete Left LineEnding) ∷ [])
    ∷ sentence "other keys"
    (letter "r" Recall
    ∷ letter "q" Quote
    ∷ letter "f" (Find Right)
    ∷ letter "u" (Find Left)
    ∷ letter "x" Replace
    ∷ letter "m" Mark
    ∷ letter "c" Cut
    ∷ letter "p" Paste
    ∷ letter "n" Newline
    ∷ letter "t" Tab
    ∷ [])
    ∷ []

-- Every key that a terminal sends: 96 inserts, delete left character, 4 behind ESC [ and 25 with a letter.
abbrev pub all_keys : List Key
all_keys = map Insert (10 ∷ counted 95 32) ++ (Function Delete Left Character ∷ (arrow_keys ++ letter_keys))
