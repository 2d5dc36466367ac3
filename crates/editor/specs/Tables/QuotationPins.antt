-- What document 01 says of QUOTE, FIND, UPFIND and REPLACE, each sentence with its examples.
use Rattle.std.specs.Prelude.{List, [], ◌∷◌, ◌++◌}
use Rattle.editor.specs.Words.{Left, Right, Character, Word, Insert, Recall, Quote, Find, Replace, Main, Quoted}
use Rattle.gap.specs.Tables.Sentence.{Sentence, sentence}
use Rattle.editor.specs.Tables.KeyExamples.{KeyExample, Refused, Goes, Rings, Text, Recalls, Quotation, ItsRecalls, Pattern, Replacement, In}
use Rattle.editor.specs.Tables.KeyExamples.{example, example_in, move_left, delete_left, delete_right, quoting}

-- ---- The quotation

abbrev pub quotation_pins : List (Sentence KeyExample)
quotation_pins =
    sentence "QUOTE in MAIN starts an empty quotation"
    (example "a|b" (Quote ∷ []) (Goes 0 ∷ In Quoted ∷ Quotation "|" ∷ ItsRecalls "|" ∷ Text "a|b" ∷ [])
    ∷ example "ab|" (delete_left Character ∷ quoting "x" Quote ++ (Quote ∷ []))
    (Goes 0 ∷ In Quoted ∷ Quotation "|" ∷ ItsRecalls "|" ∷ Text "a|" ∷ Recalls "b|" ∷ [])
    ∷ [])
    ∷ sentence "QUOTE in QUOTED abandons it with its recall text and returns to MAIN"
    (example "a|b" (quoting "xy" (delete_left Character) ++ (Quote ∷ []))
    (Goes 0 ∷ In Main ∷ Quotation "|" ∷ ItsRecalls "|" ∷ Text "a|b" ∷ Recalls "|" ∷ Pattern "" ∷ Replacement "|" ∷ [])
    ∷ [])
    ∷ sentence "in QUOTED insert, move, delete and RECALL act on the quotation and its own recall text"
    (example "ab|" (delete_left Character ∷ quoting "x y" (move_left Word)) (Goes 1 ∷ In Quoted ∷ Quotation "x |y" ∷ Text "a|" ∷ Recalls "b|" ∷ [])
    ∷ example "ab|" (delete_left Character ∷ quoting "xyz" (move_left Character) ++ (delete_left Character ∷ []))
    (Goes 1 ∷ Quotation "x|z" ∷ ItsRecalls "y|" ∷ Text "a|" ∷ Recalls "b|" ∷ [])
    ∷ example "ab|" (delete_left Character ∷ quoting "xyz" (delete_left Character) ++ (move_left Character ∷ Recall ∷ []))
    (Goes 0 ∷ Quotation "xz|y" ∷ ItsRecalls "z|" ∷ Text "a|" ∷ Recalls "b|" ∷ [])
    ∷ example "ab|" (delete_left Character ∷ quoting "x" (delete_right Character))
    (Rings ∷ Quotation "x|" ∷ ItsRecalls "|" ∷ Text "a|" ∷ Recalls "b|" ∷ [])
    ∷ [])
    ∷ sentence "in QUOTED too a deletion with the bell leaves the recall text unchanged (M-103)"
    (example "ab|" (delete_left Character ∷ quoting "xy" (delete_left Character) ++ (delete_right Character ∷ []))
    (Rings ∷ Quotation "x|" ∷ ItsRecalls "y|" ∷ Text "a|" ∷ Recalls "b|" ∷ [])
    ∷ example "ab|" (delete_left Character ∷ quoting "xy" (delete_left Character) ++ (delete_right Character ∷ Recall ∷ []))
    (Goes 0 ∷ Quotation "xy|" ∷ ItsRecalls "y|" ∷ Text "a|" ∷ Recalls "b|" ∷ [])
    ∷ [])
    ∷ sentence "the document's T does not bound the quotation"
    (example_in 1 "a|" (quoting "xy" (Insert 122)) (Goes 0 ∷ Quotation "xyz|" ∷ Text "a|" ∷ []) ∷ [])
    ∷ []

-- ---- Searches

abbrev pub search_pins : List (Sentence KeyExample)
search_pins =
    sentence "FIND in QUOTED makes the quotation's content the pattern, clears it with its recall text, returns to MAIN and searches right"
    (example "|ab ab ab" (quoting "abx" (delete_left Character) ++ (Find Right ∷ []))
    (Goes 3 ∷ Text "ab |ab ab" ∷ Pattern "ab" ∷ Quotation "|" ∷ ItsRecalls "|" ∷ In Main ∷ Replacement "|" ∷ [])
    ∷ example "|ac abc" (quoting "bc" (move_left Character) ++ (move_left Character ∷ Insert 97 ∷ Find Right ∷ []))
    (Goes 3 ∷ Text "ac |abc" ∷ Pattern "abc" ∷ Quotation "|" ∷ [])
    ∷ [])
    ∷ sentence "UPFIND likewise, to the left"
    (example "ab ab x|" (quoting "ab" (Find Left)) (Goes 4 ∷ Text "ab |ab x" ∷ Pattern "ab" ∷ Quotation "|" ∷ In Main ∷ []) ∷ [])
    ∷ sentence "in MAIN they search with the stored pattern"
    (example "|ab ab ab" (quoting "ab" (Find Right) ++ (Find Right ∷ [])) (Goes 3 ∷ Text "ab ab |ab" ∷ Pattern "ab" ∷ In Main ∷ [])
    ∷ example "|ab ab ab" (quoting "ab" (Find Right) ++ (Find Left ∷ [])) (Goes 3 ∷ Text "|ab ab ab" ∷ Pattern "ab" ∷ [])
    ∷ [])
    ∷ sentence "a search goes to the nearest d > 0, not to where it stands, and as far as the text goes"
    (example "|aaa" (quoting "a" (Find Right)) (Goes 1 ∷ Text "a|aa" ∷ [])
    ∷ example "|ab" (quoting "ab" (Find Right)) (Rings ∷ Text "|ab" ∷ [])
    ∷ example "|xxb" (quoting "b" (Find Right)) (Goes 2 ∷ Text "xx|b" ∷ [])
    ∷ example "bxx|" (quoting "b" (Find Left)) (Goes 3 ∷ Text "|bxx" ∷ [])
    ∷ [])
    ∷ sentence "otherwise it sets the bell and stays; the pattern is stored all the same"
    (example "a|b" (quoting "x" (Find Right))
    (Rings ∷ Text "a|b" ∷ Pattern "x" ∷ Quotation "|" ∷ ItsRecalls "|" ∷ In Main ∷ [])
    ∷ example "a|b" (quoting "x" (Find Left)) (Rings ∷ Text "a|b" ∷ Pattern "x" ∷ In Main ∷ [])
    ∷ [])
    ∷ sentence "searches keep the recall text, and FIND keeps the replacement"
    (example "xab ab|" (delete_left Character ∷ quoting "ab" (Find Left)) (Goes 4 ∷ Text "x|ab a" ∷ Recalls "b|" ∷ [])
    ∷ example "a|b" (quoting "y" Replace ++ quoting "x" (Find Left)) (Rings ∷ Replacement "y|" ∷ Pattern "x" ∷ [])
    ∷ [])
    ∷ sentence "at opening the pattern is empty, and an empty pattern is found everywhere"
    (example "|ab" (Find Right ∷ []) (Goes 1 ∷ Text "a|b" ∷ Pattern "" ∷ [])
    ∷ example "a|b" (Find Right ∷ []) (Goes 1 ∷ Text "ab|" ∷ [])
    ∷ example "a|b" (Find Left ∷ []) (Goes 1 ∷ Text "|ab" ∷ [])
    ∷ example "ab|" (Find Right ∷ []) (Rings ∷ Text "ab|" ∷ [])
    ∷ example "|b" (quoting "b" (Find Right) ++ quoting "" (Find Right)) (Goes 1 ∷ Text "b|" ∷ Pattern "" ∷ In Main ∷ [])
    ∷ [])
    ∷ []

-- ---- REPLACE

-- `x|ab` with the pattern `ab`: the search leftward finds none, so that the cursor stays at the match.
abbrev pub replace_pins : List (Sentence KeyExample)
replace_pins =
    sentence "REPLACE in QUOTED makes the quotation, cursor position included, the replacement pair, and exchanges the pattern for it"
    (example "x|abc" (quoting "ab" (Find Left) ++ (quoting "yz" (move_left Character) ++ (Replace ∷ [])))
    (Goes 0 ∷ Text "xy|zc" ∷ Replacement "y|z" ∷ Recalls "|ab" ∷ Quotation "|" ∷ In Main ∷ Pattern "ab" ∷ [])
    ∷ example "x|ab" (quoting "ab" (Find Left) ++ (quoting "yz" (delete_left Character) ++ (Replace ∷ [])))
    (Goes 0 ∷ Text "xy|" ∷ Replacement "y|" ∷ Quotation "|" ∷ ItsRecalls "|" ∷ [])
    ∷ [])
    ∷ sentence "in MAIN it takes the stored pair"
    (example "|ab ab" (quoting "ab" (Find Right) ++ (quoting "y" Replace ++ (Find Left ∷ Replace ∷ [])))
    (Goes 0 ∷ Text "y| y" ∷ Replacement "y|" ∷ Recalls "|ab" ∷ [])
    ∷ [])
    ∷ sentence "without a match the bell, and no change to document or recall text; quoted, it still stores its pair, clears and returns to MAIN"
    (example "cd|e" (quoting "x" (Find Left) ++ (delete_left Character ∷ quoting "yz" (move_left Character) ++ (Replace ∷ [])))
    (Rings ∷ Text "c|e" ∷ Recalls "d|" ∷ Replacement "y|z" ∷ Quotation "|" ∷ ItsRecalls "|" ∷ In Main ∷ Pattern "x" ∷ [])
    ∷ example "cd|e" (quoting "x" (Find Left) ++ (delete_left Character ∷ Replace ∷ []))
    (Rings ∷ Text "c|e" ∷ Recalls "d|" ∷ Replacement "|" ∷ In Main ∷ [])
    ∷ [])
    ∷ sentence "at opening pattern and replacement are empty: REPLACE changes nothing but the recall text"
    (example "ab|c" (delete_left Character ∷ Replace ∷ []) (Goes 0 ∷ Text "a|c" ∷ Recalls "|" ∷ Pattern "" ∷ Replacement "|" ∷ []) ∷ [])
    ∷ sentence "FULL for REPLACE counts the pattern's room as given back; refused, it stays in QUOTED with the quotation intact"
    (example_in 4 "ab|cd" (quoting "cd" (Find Left) ++ quoting "xy" Replace) (Goes 0 ∷ Text "abxy|" ∷ Recalls "|cd" ∷ [])
    ∷ example_in 4 "ab|cd" (quoting "cd" (Find Left) ++ quoting "xyz" Replace)
    (Refused 6 ∷ In Quoted ∷ Quotation "xyz|" ∷ Text "ab|cd" ∷ Replacement "|" ∷ Pattern "cd" ∷ Recalls "|" ∷ [])
    ∷ example_in 4 "ab|cd" (quoting "cd" (Find Left) ++ (quoting "xyzw" (delete_left Character) ++ (Replace ∷ [])))
    (Refused 6 ∷ In Quoted ∷ Quotation "xyz|" ∷ ItsRecalls "w|" ∷ [])
    ∷ [])
    ∷ []
