-- What document 01 says of the window, each sentence with its examples: they open a text on bytes and press keys, as the edges do.
use Rattle.std.specs.Prelude.{List, [], ◌∷◌, ◌++◌, Bool, ℕ}
use Rattle.window.specs.Words.{Character, LineBeginning, Document}
use Rattle.window.specs.Words.{Key, Insert, Quote, Mark, Cut}
use Prim.Native.String.{String}
use Rattle.gap.specs.Tables.Sentence.{Sentence, sentence}
use Rattle.editor.specs.Tables.KeyExamples.{move_left, move_right, delete_right, typed}
use Rattle.window.specs.Tables.Table.{Fact, Code, Offsets, Cursor, Named, Shows, Edge, outcome, all_hold}

abbrev pub is_right : Edge → Bool
is_right e = all_hold (outcome e) e.facts

-- An example on a screen of so many rows and columns, in a store of 20 bytes.
abbrev pub on : ℕ → ℕ → String → List Key → List Fact → Edge
on H W at keys facts = record { T = 20; H = H; W = W; at = at; keys = keys; facts = Code 0 ∷ facts }

abbrev pub window_pins : List (Sentence Edge)
window_pins =
    sentence "the virtual text is (l, r) in MAIN; lines are what newlines separate; 32 where there is no byte"
    (on 3 4 "ab\n|c" (move_right Character ∷ []) (Shows 1 "ab  " ∷ Shows 2 "c   " ∷ Shows 3 "    " ∷ Cursor 2 1 ∷ [])
    ∷ on 3 2 "|abc\n\nd" (Quote ∷ Quote ∷ []) (Shows 1 "ab" ∷ Shows 2 "  " ∷ Shows 3 "d " ∷ Cursor 1 0 ∷ [])
    ∷ [])
    ∷ sentence "in QUOTED the quotation stands on a line begun by > between l and r"
    (on 3 4 "a|b" (Quote ∷ (typed "xy" ++ (move_left Character ∷ []))) (Shows 1 "a   " ∷ Shows 2 ">xy " ∷ Shows 3 "b   " ∷ Cursor 2 2 ∷ [])
    ∷ on 4 4 "a|b" (Quote ∷ typed "x\ny") (Shows 1 "a   " ∷ Shows 2 ">x  " ∷ Shows 3 "y   " ∷ Shows 4 "b   " ∷ Cursor 3 1 ∷ [])
    ∷ [])
    ∷ sentence "the cursor has row 1 + newlines to its left, and column = bytes since the last newline, from 0"
    (on 4 4 "ab\n\nc|d" (move_left Character ∷ []) (Cursor 3 0 ∷ [])
    ∷ on 4 4 "ab\n\nc|d" (move_left Character ∷ move_left Character ∷ []) (Cursor 2 0 ∷ [])
    ∷ on 4 4 "ab\n\nc|d" (move_right Character ∷ []) (Cursor 3 2 ∷ [])
    ∷ on 4 4 "|ab" (move_right Character ∷ []) (Cursor 1 1 ∷ [])
    ∷ [])
    ∷ sentence "so it has after CUT, which reports no lines of what it takes"
    (on 4 4 "a\nb\n|c" (Mark ∷ move_left Document ∷ Cut ∷ []) (Cursor 1 0 ∷ Shows 1 "c   " ∷ Named 1 3 ∷ [])
    ∷ on 4 4 "|a\nb\nc" (move_right Character ∷ Mark ∷ move_right Document ∷ Cut ∷ []) (Cursor 1 1 ∷ Shows 1 "a   " ∷ Named 2 3 ∷ [])
    ∷ on 4 4 "|a\nb\nc" (move_right LineBeginning ∷ Mark ∷ move_right Document ∷ Cut ∷ []) (Cursor 2 0 ∷ Named 2 3 ∷ [])
    ∷ on 4 4 "a\n|b\nc" (Cut ∷ []) (Cursor 2 0 ∷ Named 0 0 ∷ [])
    ∷ [])
    ∷ sentence "row i, column j shows byte c + j of line r + i; the cursor is reported as row - r and column - c"
    (on 2 3 "|abcdef\ngh\nijklmn" (move_right Document ∷ []) (Offsets 1 3 ∷ Shows 1 "   " ∷ Shows 2 "lmn" ∷ Cursor 2 3 ∷ [])
    ∷ on 2 3 "|abcdef\nghijk\nlmnopq" (move_right Document ∷ []) (Offsets 1 3 ∷ Shows 1 "jk " ∷ Shows 2 "opq" ∷ Cursor 2 3 ∷ [])
    ∷ [])
    ∷ sentence "policy: row <= r makes r = row - 1"
    (on 2 4 "|a\nb\nc\nd\ne" (move_right Document ∷ move_left LineBeginning ∷ move_left LineBeginning ∷ []) (Offsets 3 0 ∷ Cursor 1 0 ∷ [])
    ∷ on 2 4 "|a\nb\nc\nd\ne" (move_right Document ∷ move_left LineBeginning ∷ move_left LineBeginning ∷ move_left LineBeginning ∷ [])
    (Offsets 2 0 ∷ Cursor 1 0 ∷ Shows 1 "c   " ∷ Shows 2 "d   " ∷ [])
    ∷ on 2 4 "|a\nb\nc\nd\ne" (move_right Document ∷ move_left Document ∷ []) (Offsets 0 0 ∷ Cursor 1 0 ∷ [])
    ∷ [])
    ∷ sentence "policy: row > r + H makes r = row - H"
    (on 2 4 "|a\nb\nc\nd\ne" (move_right LineBeginning ∷ []) (Offsets 0 0 ∷ Cursor 2 0 ∷ [])
    ∷ on 2 4 "|a\nb\nc\nd\ne" (move_right LineBeginning ∷ move_right LineBeginning ∷ []) (Offsets 1 0 ∷ Cursor 2 0 ∷ [])
    ∷ on 2 4 "|a\nb\nc\nd\ne" (move_right Document ∷ []) (Offsets 3 0 ∷ Cursor 2 1 ∷ [])
    ∷ [])
    ∷ sentence "policy: column < c makes c = column"
    (on 1 2 "|abcdef" (move_right Document ∷ move_left Character ∷ move_left Character ∷ []) (Offsets 0 4 ∷ Cursor 1 0 ∷ [])
    ∷ on 1 2 "|abcdef" (move_right Document ∷ move_left Character ∷ move_left Character ∷ move_left Character ∷ [])
    (Offsets 0 3 ∷ Cursor 1 0 ∷ Shows 1 "de" ∷ [])
    ∷ [])
    ∷ sentence "policy: column > c + W makes c = column - W"
    (on 1 2 "a|bcdef" (move_right Character ∷ []) (Offsets 0 0 ∷ Cursor 1 2 ∷ [])
    ∷ on 1 2 "ab|cdef" (move_right Character ∷ []) (Offsets 0 1 ∷ Cursor 1 2 ∷ [])
    ∷ on 1 2 "|abcdef" (move_right Document ∷ []) (Offsets 0 4 ∷ Cursor 1 2 ∷ [])
    ∷ [])
    ∷ sentence "the named rows are the least and greatest that changed; 0 and 0 if none"
    (on 4 4 "a\nb|\nc" (move_left Character ∷ []) (Named 0 0 ∷ [])
    ∷ on 4 4 "a\nb|\nc" (Insert 120 ∷ []) (Named 2 2 ∷ Shows 2 "bx  " ∷ [])
    ∷ on 4 4 "a\nb|\nc\nd" (delete_right Character ∷ []) (Named 2 4 ∷ Shows 2 "bc  " ∷ Shows 3 "d   " ∷ Shows 4 "    " ∷ [])
    ∷ on 3 4 "a|b" (Quote ∷ []) (Named 1 3 ∷ Shows 1 "a   " ∷ Shows 2 ">   " ∷ Shows 3 "b   " ∷ [])
    ∷ on 3 4 "a|\nb" (Quote ∷ []) (Named 2 2 ∷ Shows 2 ">   " ∷ [])
    ∷ on 2 4 "|a\na\nb" (move_right Document ∷ []) (Offsets 1 0 ∷ Named 2 2 ∷ [])
    ∷ [])
    ∷ []
