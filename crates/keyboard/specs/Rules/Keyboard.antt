-- The bytes of each key, and the key that bytes received so far give. (02, M-107.)
use Rattle.std.specs.Prelude.{List, [], ◌∷◌, cond, ℕ, eqb, length}
use Prim.Native.String.{String}
use Rattle.gap.specs.Rules.Sequence.{same_bytes}
use Rattle.gap.specs.Rules.Strings.{bytes}
use Rattle.gap.specs.Rules.Layout.{printable}
use Rattle.keyboard.specs.Words.{Left, Right, Move, Delete}
use Rattle.keyboard.specs.Words.{Character, Word, LineBeginning, LineEnding, Document, Received, Pressed, More, Refused}
use Rattle.keyboard.specs.Words.{Key, Insert, Function, Recall, Quote, Find, Replace, Mark, Cut, Paste, Newline, Tab}
use Rattle.keyboard.specs.Rules.Refusals.{SEQUENCE}

-- ---- The table

-- ESC, and the bracket behind it.
abbrev pub escape : ℕ
escape = 27

abbrev pub bracket : ℕ
bracket = 91

abbrev pub escaped : String → List ℕ
escaped s = escape ∷ bytes s

-- The bytes that a terminal sends for a key; none for an insert of a byte that terminals do not send. (02, M-107: Bytes 32 to 126 and 13
-- are inserts .. ESC and one small letter. The letters: docs/KEYBOARD.md.)
unfoldable pub bytes_of : Key → List ℕ
bytes_of (Insert b) = cond (eqb b 10) (13 ∷ []) (cond (printable b) (b ∷ []) [])
bytes_of (Function Delete Left Character) = 127 ∷ []
bytes_of (Function Move Right Character) = escaped "[C"
bytes_of (Function Move Left Character) = escaped "[D"
bytes_of (Function Move Left Document) = escaped "[H"
bytes_of (Function Move Right Document) = escaped "[F"
bytes_of (Function Move Left LineBeginning) = escaped "a"
bytes_of (Function Move Left Word) = escaped "b"
bytes_of Cut = escaped "c"
bytes_of (Function Delete Right Character) = escaped "d"
bytes_of (Function Move Right LineEnding) = escaped "e"
bytes_of (Find Right) = escaped "f"
bytes_of (Function Delete Left Word) = escaped "g"
bytes_of (Function Delete Right Word) = escaped "h"
bytes_of (Function Delete Left Document) = escaped "i"
bytes_of (Function Move Right LineBeginning) = escaped "j"
bytes_of (Function Move Left LineEnding) = escaped "k"
bytes_of (Function Delete Right LineEnding) = escaped "l"
bytes_of Mark = escaped "m"
bytes_of Newline = escaped "n"
bytes_of (Function Delete Right Document) = escaped "o"
bytes_of Paste = escaped "p"
bytes_of Quote = escaped "q"
bytes_of Recall = escaped "r"
bytes_of (Function Delete Left LineBeginning) = escaped "s"
bytes_of Tab = escaped "t"
bytes_of (Find Left) = escaped "u"
bytes_of (Function Move Right Word) = escaped "w"
bytes_of Replace = escaped "x"
bytes_of (Function Delete Right LineBeginning) = escaped "y"
bytes_of (Function Delete Left LineEnding) = escaped "z"

-- The keys behind ESC [, and those that are ESC and a letter.
abbrev pub arrow_keys : List Key
arrow_keys =
    Function Move Right Character
    ∷ Function Move Left Character
    ∷ Function Move Right Document
    ∷ Function Move Left Document
    ∷ []

abbrev pub letter_keys : List Key
letter_keys =
    Function Move Left LineBeginning
    ∷ Function Move Left Word
    ∷ Cut
    ∷ Function Delete Right Character
    ∷ Function Move Right LineEnding
    ∷ Find Right
    ∷ Function Delete Left Word
    ∷ Function Delete Right Word
    ∷ Function Delete Left Document
    ∷ Function Move Right LineBeginning
    ∷ Function Move Left LineEnding
    ∷ Function Delete Right LineEnding
    ∷ Mark
    ∷ Newline
    ∷ Function Delete Right Document
    ∷ Paste
    ∷ Quote
    ∷ Recall
    ∷ Function Delete Left LineBeginning
    ∷ Tab
    ∷ Find Left
    ∷ Function Move Right Word
    ∷ Replace
    ∷ Function Delete Right LineBeginning
    ∷ Function Delete Left LineEnding
    ∷ []

-- ---- Bytes received

-- The one of these keys that has exactly these bytes, with all of them used; else their last byte is one that no key continues.
-- (02, M-107: SEQUENCE, used up to and including it.)
unfoldable pub key_among : List ℕ → List Key → Received
key_among s [] = Refused SEQUENCE (length s)
key_among s (k ∷ ks) = cond (same_bytes s (bytes_of k)) (Pressed k (length s)) (key_among s ks)

-- 13 inserts 10, another byte itself. (02, M-107.)
abbrev pub insert_of : ℕ → Key
insert_of b = Insert (cond (eqb b 13) 10 b)

unfoldable pub byte_received : ℕ → Received
byte_received b = key_among (b ∷ []) (insert_of b ∷ Function Delete Left Character ∷ [])

unfoldable pub letter_received : ℕ → Received
letter_received b = key_among (escape ∷ b ∷ []) letter_keys

unfoldable pub arrow_received : ℕ → Received
arrow_received b = key_among (escape ∷ bracket ∷ b ∷ []) arrow_keys

-- What bytes received so far give, from ESC [ on, from ESC on, and from the first. (02, M-107: one key and the number of bytes used, or
-- more needed with 0 used, also for no bytes.) That it is what the table says of any bytes is a theorem, reads-exactly in Theorems/Readings.
abbrev pub bracketed_received : List ℕ → Received
bracketed_received [] = More
bracketed_received (b ∷ s) = arrow_received b

abbrev pub escaped_received : List ℕ → Received
escaped_received [] = More
escaped_received (b ∷ s) = cond (eqb b bracket) (bracketed_received s) (letter_received b)

unfoldable pub received : List ℕ → Received
received [] = More
received (b ∷ s) = cond (eqb b escape) (escaped_received s) (byte_received b)

-- How many of the bytes an answer uses. (02, M-107: the number of bytes used.)
abbrev pub used_of : Received → ℕ
used_of (Pressed k used) = used
used_of More = 0
used_of (Refused code used) = used
