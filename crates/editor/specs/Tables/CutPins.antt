-- What request M-101 says of CUT and PASTE and of the held text, each sentence with its examples: `|` is the cursor, `^` the mark.
use Rattle.std.specs.Prelude.{List, [], ◌∷◌, ◌++◌}
use Rattle.editor.specs.Words.{Character, Word, Document, Insert, Recall, Quote, Find, Mark, Cut, Paste}
use Rattle.editor.specs.Words.{Left, Right, Main, Quoted}
use Rattle.gap.specs.Tables.Sentence.{Sentence, sentence}
use Rattle.editor.specs.Tables.KeyExamples.{KeyExample, Refused, Goes, Rings, Recalls, Quotation, ItsRecalls, Pattern, Replacement, In}
use Rattle.editor.specs.Tables.KeyExamples.{Stands, Holds, example, example_in, move_left, move_right, delete_left, delete_right, quoting}
use Rattle.editor.specs.Tables.MarkPins.{replacing}

-- ---- CUT

abbrev pub cut_pins : List (Sentence KeyExample)
cut_pins =
    sentence "CUT with the mark left of the cursor removes what lies between, holds (x, empty), reports its length and drops the mark"
    (example "ab^cde|f" (Cut ∷ []) (Goes 3 ∷ Stands "ab|f" ∷ Holds "cde|" ∷ Recalls "|" ∷ [])
    ∷ example "a^b|" (Cut ∷ []) (Goes 1 ∷ Stands "a|" ∷ Holds "b|" ∷ [])
    ∷ [])
    ∷ sentence "with the mark right of the cursor it holds (empty, x)"
    (example "ab|cde^f" (Cut ∷ []) (Goes 3 ∷ Stands "ab|f" ∷ Holds "|cde" ∷ Recalls "|" ∷ [])
    ∷ example "|a^b" (Cut ∷ []) (Goes 1 ∷ Stands "|b" ∷ Holds "|a" ∷ [])
    ∷ [])
    ∷ sentence "everything can be cut, also out of a full store"
    (example_in 4 "^ab\nc|" (Cut ∷ []) (Goes 4 ∷ Stands "|" ∷ Holds "ab\nc|" ∷ [])
    ∷ example_in 4 "|ab\nc^" (Cut ∷ []) (Goes 4 ∷ Stands "|" ∷ Holds "|ab\nc" ∷ [])
    ∷ [])
    ∷ sentence "CUT reports no lines, whatever it removes: it is not among M-104's keys"
    (example "a^\nb\n|c" (Cut ∷ []) (Goes 3 ∷ Stands "a|c" ∷ Holds "\nb\n|" ∷ [])
    ∷ example "a|\nb\n^c" (Cut ∷ []) (Goes 3 ∷ Stands "a|c" ∷ Holds "|\nb\n" ∷ [])
    ∷ [])
    ∷ sentence "recall text, pattern and replacement stay; RECALL does not give what was cut"
    (example "ab^cde|f" (delete_left Character ∷ Cut ∷ []) (Goes 2 ∷ Stands "ab|f" ∷ Holds "cd|" ∷ Recalls "e|" ∷ [])
    ∷ example "ab|cde^f" (delete_left Character ∷ Cut ∷ []) (Goes 3 ∷ Stands "a|f" ∷ Holds "|cde" ∷ Recalls "b|" ∷ [])
    ∷ example "ab^cde|f" (delete_left Character ∷ Cut ∷ Recall ∷ []) (Goes 0 ∷ Stands "abe|f" ∷ Holds "cd|" ∷ Recalls "e|" ∷ [])
    ∷ example "^a|bcd" (replacing ++ (Cut ∷ []))
    (Goes 2 ∷ Stands "|yzd" ∷ Holds "ax|" ∷ Pattern "bc" ∷ Replacement "x|yz" ∷ Recalls "|bc" ∷ In Main ∷ [])
    ∷ [])
    ∷ sentence "with the mark at the cursor: no bell, no steps, the mark goes, and the held pair becomes empty"
    (example "ab^|c" (Cut ∷ []) (Goes 0 ∷ Stands "ab|c" ∷ Holds "|" ∷ [])
    ∷ example "^|" (Cut ∷ []) (Goes 0 ∷ Stands "|" ∷ Holds "|" ∷ [])
    ∷ example "ab^cd|e" (Cut ∷ delete_right Character ∷ Mark ∷ Cut ∷ []) (Goes 0 ∷ Stands "ab|" ∷ Holds "|" ∷ Recalls "|e" ∷ [])
    ∷ example "ab|cd^e" (Cut ∷ Mark ∷ Cut ∷ []) (Goes 0 ∷ Stands "ab|e" ∷ Holds "|" ∷ [])
    ∷ [])
    ∷ sentence "without a mark CUT sets the bell and does nothing else"
    (example "ab|c" (Cut ∷ []) (Rings ∷ Stands "ab|c" ∷ Holds "|" ∷ [])
    ∷ example "ab^cd|e" (Cut ∷ delete_left Character ∷ Cut ∷ []) (Rings ∷ Stands "a|e" ∷ Holds "cd|" ∷ Recalls "b|" ∷ [])
    ∷ example "ab|cd^e" (Cut ∷ Cut ∷ []) (Rings ∷ Stands "ab|e" ∷ Holds "|cd" ∷ [])
    ∷ example "a|b^c de" (delete_right Word ∷ Cut ∷ []) (Rings ∷ Stands "a|de" ∷ Holds "|" ∷ Recalls "|bc " ∷ [])
    ∷ [])
    ∷ sentence "each CUT holds its own text in the place of the last"
    (example "^ab|cd" (Cut ∷ Mark ∷ move_right Character ∷ Cut ∷ []) (Goes 1 ∷ Stands "|d" ∷ Holds "c|" ∷ [])
    ∷ example "^ab|cd" (Cut ∷ move_right Document ∷ Mark ∷ move_left Document ∷ Cut ∷ []) (Goes 2 ∷ Stands "|" ∷ Holds "|cd" ∷ [])
    ∷ [])
    ∷ []

-- ---- PASTE

abbrev pub paste_pins : List (Sentence KeyExample)
paste_pins =
    sentence "PASTE makes (l, r) into (l then x, y then r), reports 0 and keeps the held pair, so that it can be repeated"
    (example "ab^cd|e" (Cut ∷ Paste ∷ []) (Goes 0 ∷ Stands "abcd|e" ∷ Holds "cd|" ∷ [])
    ∷ example "ab^cd|e" (Cut ∷ Paste ∷ Paste ∷ []) (Goes 0 ∷ Stands "abcdcd|e" ∷ Holds "cd|" ∷ [])
    ∷ example "ab|cd^e" (Cut ∷ Paste ∷ []) (Goes 0 ∷ Stands "ab|cde" ∷ Holds "|cd" ∷ [])
    ∷ example "ab|cd^e" (Cut ∷ move_left Document ∷ Paste ∷ Paste ∷ []) (Goes 0 ∷ Stands "|cdcdabe" ∷ Holds "|cd" ∷ [])
    ∷ example "a^\n|b" (Cut ∷ Paste ∷ []) (Goes 0 ∷ Stands "a\n|b" ∷ Holds "\n|" ∷ [])
    ∷ example "a|b" (Paste ∷ []) (Goes 0 ∷ Stands "a|b" ∷ Holds "|" ∷ [])
    ∷ [])
    ∷ sentence "it inserts what is held and not what was deleted; recall text, pattern and replacement stay"
    (example "ab^cd|e" (Cut ∷ delete_right Character ∷ Paste ∷ []) (Goes 0 ∷ Stands "abcd|" ∷ Holds "cd|" ∷ Recalls "|e" ∷ [])
    ∷ example "ab|c" (delete_left Character ∷ Paste ∷ []) (Goes 0 ∷ Stands "a|c" ∷ Holds "|" ∷ Recalls "b|" ∷ [])
    ∷ example "^a|bcd" (replacing ++ (Cut ∷ Paste ∷ []))
    (Goes 0 ∷ Stands "ax|yzd" ∷ Holds "ax|" ∷ Pattern "bc" ∷ Replacement "x|yz" ∷ Recalls "|bc" ∷ In Main ∷ [])
    ∷ [])
    ∷ sentence "the mark goes through PASTE as through any insertion: to its left it moves it, at it and to its right it does not"
    (example "ab^cd|e" (Cut ∷ move_left Character ∷ Mark ∷ move_right Character ∷ Paste ∷ []) (Goes 0 ∷ Stands "a^bcd|e" ∷ [])
    ∷ example "ab^cd|e" (Cut ∷ Mark ∷ Paste ∷ []) (Goes 0 ∷ Stands "ab^cd|e" ∷ [])
    ∷ example "ab^cd|e" (Cut ∷ move_right Character ∷ Mark ∷ move_left Character ∷ Paste ∷ []) (Goes 0 ∷ Stands "abcd|e^" ∷ [])
    ∷ example "ab|cd^e" (Cut ∷ move_left Character ∷ Mark ∷ move_right Character ∷ Paste ∷ []) (Goes 0 ∷ Stands "a^b|cde" ∷ [])
    ∷ example "ab|cd^e" (Cut ∷ Mark ∷ Paste ∷ []) (Goes 0 ∷ Stands "ab^|cde" ∷ [])
    ∷ example "ab|cd^e" (Cut ∷ move_right Character ∷ Mark ∷ move_left Character ∷ Paste ∷ []) (Goes 0 ∷ Stands "ab|cde^" ∷ [])
    ∷ example "ab^cd|e" (Cut ∷ Mark ∷ Paste ∷ Cut ∷ []) (Goes 2 ∷ Stands "ab|e" ∷ Holds "cd|" ∷ [])
    ∷ [])
    ∷ sentence "every other key keeps the held pair"
    (example "ab^cd|e" (Cut ∷ Insert 120 ∷ move_left Character ∷ delete_left Character ∷ Recall ∷ []) (Goes 0 ∷ Stands "ab|xe" ∷ Holds "cd|" ∷ [])
    ∷ example "^cd|abc" (Cut ∷ move_right Character ∷ replacing) (Goes 0 ∷ Stands "ax|yz" ∷ Holds "cd|" ∷ [])
    ∷ example "ab|cd^e" (Cut ∷ quoting "x" (Find Right)) (Rings ∷ Holds "|cd" ∷ In Main ∷ [])
    ∷ example "ab|cd^e" (Cut ∷ quoting "xy" (delete_left Character) ++ (Recall ∷ []))
    (Goes 0 ∷ Holds "|cd" ∷ Quotation "xy|" ∷ ItsRecalls "y|" ∷ In Quoted ∷ [])
    ∷ example "ab|cd^e" (Cut ∷ quoting "x" Quote) (Goes 0 ∷ Holds "|cd" ∷ In Main ∷ [])
    ∷ [])
    ∷ sentence "FULL for PASTE: the finished document would exceed T; the last free byte can be pasted into; refused, nothing changes"
    (example_in 3 "a^b|c" (Cut ∷ Paste ∷ []) (Goes 0 ∷ Stands "ab|c" ∷ Holds "b|" ∷ [])
    ∷ example_in 3 "a^b|c" (Cut ∷ Paste ∷ Paste ∷ []) (Refused 6 ∷ Stands "ab|c" ∷ Holds "b|" ∷ [])
    ∷ example_in 7 "ab^cd|e" (Cut ∷ Paste ∷ Paste ∷ []) (Goes 0 ∷ Stands "abcdcd|e" ∷ Holds "cd|" ∷ [])
    ∷ example_in 6 "ab^cd|e" (Cut ∷ Paste ∷ Mark ∷ Paste ∷ []) (Refused 6 ∷ Stands "abcd^|e" ∷ Holds "cd|" ∷ [])
    ∷ example_in 7 "ab|cd^e" (Cut ∷ Paste ∷ Paste ∷ []) (Goes 0 ∷ Stands "ab|cdcde" ∷ Holds "|cd" ∷ [])
    ∷ example_in 6 "ab|cd^e" (Cut ∷ Paste ∷ Paste ∷ []) (Refused 6 ∷ Stands "ab|cde" ∷ Holds "|cd" ∷ [])
    ∷ example_in 2 "ab|" (Paste ∷ []) (Goes 0 ∷ Stands "ab|" ∷ [])
    ∷ example_in 2 "ab|" (Mark ∷ []) (Goes 0 ∷ Stands "ab^|" ∷ [])
    ∷ [])
    ∷ sentence "KEY for MARK, CUT and PASTE in QUOTED, before the bell and before FULL; the state stays"
    (example "ab|c" (Quote ∷ Mark ∷ []) (Refused 5 ∷ Stands "ab|c" ∷ In Quoted ∷ [])
    ∷ example "a^b|c" (quoting "xy" Mark) (Refused 5 ∷ Stands "a^b|c" ∷ Quotation "xy|" ∷ In Quoted ∷ [])
    ∷ example "ab|c" (Quote ∷ Cut ∷ []) (Refused 5 ∷ Stands "ab|c" ∷ In Quoted ∷ [])
    ∷ example "a^b|c" (quoting "xy" Cut) (Refused 5 ∷ Stands "a^b|c" ∷ Holds "|" ∷ Quotation "xy|" ∷ In Quoted ∷ [])
    ∷ example "ab|c" (Quote ∷ Paste ∷ []) (Refused 5 ∷ Stands "ab|c" ∷ In Quoted ∷ [])
    ∷ example_in 3 "a^b|c" (Cut ∷ Paste ∷ quoting "xy" Paste) (Refused 5 ∷ Stands "ab|c" ∷ Holds "b|" ∷ Quotation "xy|" ∷ In Quoted ∷ [])
    ∷ [])
    ∷ sentence "back in MAIN they act again"
    (example "a^b|c" (quoting "xy" Quote ++ (Cut ∷ [])) (Goes 1 ∷ Stands "a|c" ∷ Holds "b|" ∷ [])
    ∷ example "a^b|c" (Cut ∷ quoting "x" (Find Left) ++ (Paste ∷ [])) (Goes 0 ∷ Stands "ab|c" ∷ Holds "b|" ∷ [])
    ∷ example "ab|c" (Quote ∷ Quote ∷ Mark ∷ []) (Goes 0 ∷ Stands "ab^|c" ∷ [])
    ∷ [])
    ∷ []
