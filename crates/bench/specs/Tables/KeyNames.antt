-- Every key's name as documents 01 and 02 write it, and words that name no key. proofs/Theorems/Pins computes them.
use Rattle.std.specs.Prelude.{List, [], ◌∷◌}
use Prim.Native.String.{String}
use Rattle.bench.specs.Words.{Left, Right, Move, Delete, Character, Word, LineBeginning, LineEnding, Document}
use Rattle.bench.specs.Words.{Key, Insert, Function, Recall, Quote, Find, Replace, Mark, Cut, Paste, Newline, Tab}

pub record NamedKey : Type 0 where
  pub name : String
  pub key : Key

abbrev pub names : String → Key → NamedKey
names name key = record { name = name; key = key }

-- 01, the bench program: `move` or `delete`, `left` or `right`, and a place, joined by `-`.
abbrev pub function_names : List NamedKey
function_names =
    names "move-left-character" (Function Move Left Character)
    ∷ names "move-left-word" (Function Move Left Word)
    ∷ names "move-left-line-begin" (Function Move Left LineBeginning)
    ∷ names "move-left-line-end" (Function Move Left LineEnding)
    ∷ names "move-left-document" (Function Move Left Document)
    ∷ names "move-right-character" (Function Move Right Character)
    ∷ names "move-right-word" (Function Move Right Word)
    ∷ names "move-right-line-begin" (Function Move Right LineBeginning)
    ∷ names "move-right-line-end" (Function Move Right LineEnding)
    ∷ names "move-right-document" (Function Move Right Document)
    ∷ names "delete-left-character" (Function Delete Left Character)
    ∷ names "delete-left-word" (Function Delete Left Word)
    ∷ names "delete-left-line-begin" (Function Delete Left LineBeginning)
    ∷ names "delete-left-line-end" (Function Delete Left LineEnding)
    ∷ names "delete-left-document" (Function Delete Left Document)
    ∷ names "delete-right-character" (Function Delete Right Character)
    ∷ names "delete-right-word" (Function Delete Right Word)
    ∷ names "delete-right-line-begin" (Function Delete Right LineBeginning)
    ∷ names "delete-right-line-end" (Function Delete Right LineEnding)
    ∷ names "delete-right-document" (Function Delete Right Document)
    ∷ []

-- 01, the bench program: the other keys; an insert's number is decimal, without leading zeros, and at most 255.
abbrev pub other_names : List NamedKey
other_names =
    names "recall" Recall
    ∷ names "quote" Quote
    ∷ names "find" (Find Right)
    ∷ names "upfind" (Find Left)
    ∷ names "replace" Replace
    ∷ names "mark" Mark
    ∷ names "cut" Cut
    ∷ names "paste" Paste
    ∷ names "newline" Newline
    ∷ names "tab" Tab
    ∷ names "insert-0" (Insert 0)
    ∷ names "insert-10" (Insert 10)
    ∷ names "insert-97" (Insert 97)
    ∷ names "insert-255" (Insert 255)
    ∷ []

abbrev pub no_names : List String
no_names =
    ""
    ∷ "insert"
    ∷ "insert-"
    ∷ "insert-256"
    ∷ "insert-00010"
    ∷ "insert-10 "
    ∷ "insert-a"
    ∷ "insert_10"
    ∷ "Recall"
    ∷ "recall-"
    ∷ "quot"
    ∷ "quotes"
    ∷ "find-right"
    ∷ "upfind-left"
    ∷ "replaced"
    ∷ "marks"
    ∷ "Cut"
    ∷ "past"
    ∷ "newlines"
    ∷ "ta"
    ∷ "move"
    ∷ "move-left"
    ∷ "move-left-line"
    ∷ "move-left-line-ending"
    ∷ "move-up-word"
    ∷ "left-move-word"
    ∷ []
