-- What document 01 says of insertions, places, moves, deletions and RECALL, each sentence with its examples.
use Rattle.std.specs.Prelude.{List, [], ◌∷◌}
use Rattle.editor.specs.Words.{Character, Word, LineBeginning, LineEnding, Document, Insert, Recall, Quote}
use Rattle.gap.specs.Tables.Sentence.{Sentence, sentence}
use Rattle.editor.specs.Tables.KeyExamples.{KeyExample, Refused, Goes, Crosses, Rings, Text, Recalls, example, example_in}
use Rattle.editor.specs.Tables.KeyExamples.{move_left, move_right, delete_left, delete_right, typed}

-- ---- Places

abbrev pub place_pins : List (Sentence KeyExample)
place_pins =
    sentence "right to each place"
    (example "abc de\nf|gh ijk\nlm" (move_right Character ∷ []) (Goes 1 ∷ Text "abc de\nfg|h ijk\nlm" ∷ [])
    ∷ example "abc de\nf|gh ijk\nlm" (move_right Word ∷ []) (Goes 3 ∷ Text "abc de\nfgh |ijk\nlm" ∷ [])
    ∷ example "abc de\nf|gh ijk\nlm" (move_right LineBeginning ∷ []) (Crosses 7 1 ∷ Text "abc de\nfgh ijk\n|lm" ∷ [])
    ∷ example "abc de\nf|gh ijk\nlm" (move_right LineEnding ∷ []) (Goes 6 ∷ Text "abc de\nfgh ijk|\nlm" ∷ [])
    ∷ example "abc de\nf|gh ijk\nlm" (move_right Document ∷ []) (Crosses 9 1 ∷ Text "abc de\nfgh ijk\nlm|" ∷ [])
    ∷ [])
    ∷ sentence "left to each place"
    (example "abc de\nfgh ij|k\nlm" (move_left Character ∷ []) (Goes 1 ∷ Text "abc de\nfgh i|jk\nlm" ∷ [])
    ∷ example "abc de\nfgh ij|k\nlm" (move_left Word ∷ []) (Goes 2 ∷ Text "abc de\nfgh |ijk\nlm" ∷ [])
    ∷ example "abc de\nfgh ij|k\nlm" (move_left LineBeginning ∷ []) (Goes 6 ∷ Text "abc de\n|fgh ijk\nlm" ∷ [])
    ∷ example "abc de\nfgh ij|k\nlm" (move_left LineEnding ∷ []) (Crosses 7 1 ∷ Text "abc de|\nfgh ijk\nlm" ∷ [])
    ∷ example "abc de\nfgh ij|k\nlm" (move_left Document ∷ []) (Crosses 13 1 ∷ Text "|abc de\nfgh ijk\nlm" ∷ [])
    ∷ [])
    ∷ sentence "word: nothing, a space or a newline before it, and nothing or neither behind it"
    (example "a|b " (move_right Word ∷ []) (Goes 2 ∷ Text "ab |" ∷ [])
    ∷ example "a|  b" (move_right Word ∷ []) (Goes 2 ∷ Text "a  |b" ∷ [])
    ∷ example "a| \nb" (move_right Word ∷ []) (Crosses 2 1 ∷ Text "a \n|b" ∷ [])
    ∷ example "a|b" (move_right Word ∷ []) (Rings ∷ Text "a|b" ∷ [])
    ∷ example "ab|c" (move_left Word ∷ []) (Goes 2 ∷ Text "|abc" ∷ [])
    ∷ [])
    ∷ sentence "every line beginning is a word place, that of an empty line too"
    (example "a|\n\nb" (move_right Word ∷ []) (Crosses 1 1 ∷ Text "a\n|\nb" ∷ [])
    ∷ example " a|" (move_left Word ∷ move_left Word ∷ []) (Goes 1 ∷ Text "| a" ∷ [])
    ∷ [])
    ∷ sentence "line beginning: nothing or a newline before it"
    (example "ab|c" (move_left LineBeginning ∷ []) (Goes 2 ∷ Text "|abc" ∷ [])
    ∷ example "a|b" (move_right LineBeginning ∷ []) (Rings ∷ Text "a|b" ∷ [])
    ∷ example "a|b\n" (move_right LineBeginning ∷ []) (Crosses 2 1 ∷ Text "ab\n|" ∷ [])
    ∷ [])
    ∷ sentence "line ending: nothing or a newline behind it"
    (example "a|bc" (move_right LineEnding ∷ []) (Goes 2 ∷ Text "abc|" ∷ [])
    ∷ example "a|b" (move_left LineEnding ∷ []) (Rings ∷ Text "a|b" ∷ [])
    ∷ example "\na|b" (move_left LineEnding ∷ []) (Crosses 2 1 ∷ Text "|\nab" ∷ [])
    ∷ [])
    ∷ sentence "the distance is above 0: from a place the next one is meant"
    (example "|ab\ncd" (move_right LineBeginning ∷ []) (Crosses 3 1 ∷ Text "ab\n|cd" ∷ [])
    ∷ example "ab|\ncd" (move_right LineEnding ∷ []) (Crosses 3 1 ∷ Text "ab\ncd|" ∷ [])
    ∷ example "ab\n|cd" (move_left LineBeginning ∷ []) (Crosses 3 1 ∷ Text "|ab\ncd" ∷ [])
    ∷ example "ab |cd ef" (move_right Word ∷ []) (Goes 3 ∷ Text "ab cd |ef" ∷ [])
    ∷ [])
    ∷ sentence "where no place is reachable the text and cursor stay, and the bell is set"
    (example "ab|" (move_right Character ∷ []) (Rings ∷ Text "ab|" ∷ [])
    ∷ example "|ab" (move_left Document ∷ []) (Rings ∷ Text "|ab" ∷ [])
    ∷ example "ab|" (move_right Document ∷ []) (Rings ∷ Text "ab|" ∷ [])
    ∷ example "|ab" (delete_left Character ∷ []) (Rings ∷ Text "|ab" ∷ [])
    ∷ example "a|b" (delete_right Word ∷ []) (Rings ∷ Text "a|b" ∷ [])
    ∷ [])
    ∷ []

-- ---- Insertions and deletions

abbrev pub edit_pins : List (Sentence KeyExample)
edit_pins =
    sentence "an insertion appends to l, reports no steps and keeps the recall text"
    (example "ab|c" (delete_left Character ∷ Insert 120 ∷ []) (Goes 0 ∷ Text "ax|c" ∷ Recalls "b|" ∷ [])
    ∷ example "|" (typed "x\n ~") (Goes 0 ∷ Text "x\n ~|" ∷ [])
    ∷ [])
    ∷ sentence "KEY: an insert of a byte that is not allowed"
    (example "a|b" (Insert 0 ∷ []) (Refused 5 ∷ Text "a|b" ∷ [])
    ∷ example "a|b" (Insert 9 ∷ []) (Refused 5 ∷ [])
    ∷ example "a|b" (Insert 11 ∷ []) (Refused 5 ∷ [])
    ∷ example "a|b" (Insert 13 ∷ []) (Refused 5 ∷ [])
    ∷ example "a|b" (Insert 31 ∷ []) (Refused 5 ∷ [])
    ∷ example "a|b" (Insert 127 ∷ []) (Refused 5 ∷ [])
    ∷ example "a|b" (Insert 128 ∷ []) (Refused 5 ∷ [])
    ∷ example "a|b" (Insert 255 ∷ []) (Refused 5 ∷ Text "a|b" ∷ [])
    ∷ example "a|b" (Quote ∷ Insert 9 ∷ []) (Refused 5 ∷ [])
    ∷ [])
    ∷ sentence "KEY: a deletion left to a line ending, a deletion right to a line beginning; it comes before FULL and before the bell"
    (example "a\nb|c" (delete_left LineEnding ∷ []) (Refused 5 ∷ Text "a\nb|c" ∷ [])
    ∷ example "a|b\nc" (delete_right LineBeginning ∷ []) (Refused 5 ∷ Text "a|b\nc" ∷ [])
    ∷ example "|" (delete_left LineEnding ∷ []) (Refused 5 ∷ [])
    ∷ example "|" (Quote ∷ delete_right LineBeginning ∷ []) (Refused 5 ∷ [])
    ∷ example_in 1 "a|" (Insert 9 ∷ []) (Refused 5 ∷ [])
    ∷ [])
    ∷ sentence "a deletion leftward removes d bytes, reports d and recalls (x, empty)"
    (example "abc de\nfgh ij|k\nlm" (delete_left Character ∷ []) (Goes 1 ∷ Text "abc de\nfgh i|k\nlm" ∷ Recalls "j|" ∷ [])
    ∷ example "abc de\nfgh ij|k\nlm" (delete_left Word ∷ []) (Goes 2 ∷ Text "abc de\nfgh |k\nlm" ∷ Recalls "ij|" ∷ [])
    ∷ example "abc de\nfgh ij|k\nlm" (delete_left LineBeginning ∷ []) (Goes 6 ∷ Text "abc de\n|k\nlm" ∷ Recalls "fgh ij|" ∷ [])
    ∷ example "abc de\nfgh ij|k\nlm" (delete_left Document ∷ []) (Crosses 13 1 ∷ Text "|k\nlm" ∷ Recalls "abc de\nfgh ij|" ∷ [])
    ∷ [])
    ∷ sentence "a deletion rightward removes d bytes, reports d and recalls (empty, x)"
    (example "abc de\nf|gh ijk\nlm" (delete_right Character ∷ []) (Goes 1 ∷ Text "abc de\nf|h ijk\nlm" ∷ Recalls "|g" ∷ [])
    ∷ example "abc de\nf|gh ijk\nlm" (delete_right Word ∷ []) (Goes 3 ∷ Text "abc de\nf|ijk\nlm" ∷ Recalls "|gh " ∷ [])
    ∷ example "abc de\nf|gh ijk\nlm" (delete_right LineEnding ∷ []) (Goes 6 ∷ Text "abc de\nf|\nlm" ∷ Recalls "|gh ijk" ∷ [])
    ∷ example "abc de\nf|gh ijk\nlm" (delete_right Document ∷ []) (Crosses 9 1 ∷ Text "abc de\nf|" ∷ Recalls "|gh ijk\nlm" ∷ [])
    ∷ [])
    ∷ sentence "every deletion with steps sets the recall text; one with the bell leaves it unchanged (M-103)"
    (example "ab|c" (delete_left Character ∷ delete_right Character ∷ []) (Goes 1 ∷ Text "a|" ∷ Recalls "|c" ∷ [])
    ∷ example "ab|" (delete_left Character ∷ delete_right Character ∷ []) (Rings ∷ Text "a|" ∷ Recalls "b|" ∷ [])
    ∷ example "|ab" (delete_right Word ∷ delete_right Document ∷ delete_left Word ∷ []) (Rings ∷ Text "|" ∷ Recalls "|ab" ∷ [])
    ∷ example "|" (delete_left Word ∷ []) (Rings ∷ Text "|" ∷ Recalls "|" ∷ [])
    ∷ [])
    ∷ sentence "moves keep the recall text, also those that ring"
    (example "ab|c" (delete_left Character ∷ move_right Character ∷ []) (Goes 1 ∷ Text "ac|" ∷ Recalls "b|" ∷ [])
    ∷ example "ab|" (delete_left Character ∷ move_right Character ∷ []) (Rings ∷ Text "a|" ∷ Recalls "b|" ∷ [])
    ∷ [])
    ∷ sentence "RECALL makes (l, r) into (l then x, y then r), reports no steps and keeps the pair"
    (example "ab cd|ef" (delete_left Word ∷ Recall ∷ []) (Goes 0 ∷ Text "ab cd|ef" ∷ Recalls "cd|" ∷ [])
    ∷ example "ab cd|ef" (delete_left Word ∷ Recall ∷ Recall ∷ []) (Goes 0 ∷ Text "ab cdcd|ef" ∷ Recalls "cd|" ∷ [])
    ∷ example "ab|cd ef" (delete_right Word ∷ Recall ∷ Recall ∷ []) (Goes 0 ∷ Text "ab|cd cd ef" ∷ Recalls "|cd " ∷ [])
    ∷ example "a|b" (Recall ∷ []) (Goes 0 ∷ Text "a|b" ∷ Recalls "|" ∷ [])
    ∷ [])
    ∷ sentence "FULL: the finished document would exceed T; refused, nothing changes"
    (example_in 3 "ab|" (Insert 99 ∷ []) (Goes 0 ∷ Text "abc|" ∷ [])
    ∷ example_in 3 "ab|c" (Insert 100 ∷ []) (Refused 6 ∷ Text "ab|c" ∷ [])
    ∷ example_in 4 "abcd|" (delete_left Character ∷ Recall ∷ []) (Goes 0 ∷ Text "abcd|" ∷ [])
    ∷ example_in 4 "abcd|" (delete_left Character ∷ Recall ∷ Recall ∷ []) (Refused 6 ∷ Text "abcd|" ∷ Recalls "d|" ∷ [])
    ∷ example_in 4 "|abcd" (delete_right Character ∷ Recall ∷ Recall ∷ []) (Refused 6 ∷ Text "|abcd" ∷ Recalls "|a" ∷ [])
    ∷ example_in 2 "ab|" (move_left Character ∷ delete_left Character ∷ []) (Goes 1 ∷ Text "|b" ∷ [])
    ∷ [])
    ∷ []
