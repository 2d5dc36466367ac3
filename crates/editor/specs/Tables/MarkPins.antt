-- What request M-101 says of the mark, each sentence with its examples: `|` is the cursor, `^` the mark, a position between bytes.
use Rattle.std.specs.Prelude.{List, [], ◌∷◌, ◌++◌, Bool, ◌&&◌, ℕ, eqb, Option, Some, None}
use Rattle.editor.specs.Words.{Left, Right, Character, Word, LineEnding, Document}
use Rattle.editor.specs.Words.{Key, Insert, Recall, Quote, Find, Replace, Mark, Cut, Paste, Main, Quoted}
use Prim.Native.String.{String}
use Rattle.gap.specs.Tables.Sentence.{Sentence, sentence}
use Rattle.gap.specs.Tables.Written.{is_doc}
use Rattle.editor.specs.Rules.Marks.{Change, mark_through}
use Rattle.editor.specs.Rules.Plain.{Plain}
use Rattle.editor.specs.Rules.Keys.{acted, change_of}
use Rattle.editor.specs.Tables.KeyExamples.{KeyExample, Refused, Goes, Crosses, Rings, Recalls, Quotation, ItsRecalls, Pattern, Replacement}
use Rattle.editor.specs.Tables.KeyExamples.{In, Stands, Holds, same_marking, example, example_in, seen_in}
use Rattle.editor.specs.Tables.KeyExamples.{move_left, move_right, delete_left, delete_right, typed, quoting}

-- A quoted REPLACE of bc by x and yz, cut between them. UPFIND stores the pattern; in the examples it finds none, and the cursor stays.
abbrev pub storing : List Key
storing = quoting "bc" (Find Left)

abbrev pub replacing : List Key
replacing = storing ++ (quoting "xyz" (move_left Character) ++ (move_left Character ∷ Replace ∷ []))

-- ---- The mark through each key

abbrev pub mark_pins : List (Sentence KeyExample)
mark_pins =
    sentence "MARK sets the mark at the cursor and reports 0; nothing else changes; again, it moves the mark"
    (example "ab|c" (Mark ∷ []) (Goes 0 ∷ Stands "ab^|c" ∷ [])
    ∷ example "|" (Mark ∷ []) (Goes 0 ∷ Stands "^|" ∷ [])
    ∷ example "a\nb|" (Mark ∷ []) (Goes 0 ∷ Stands "a\nb^|" ∷ [])
    ∷ example "a^b|c" (Mark ∷ []) (Goes 0 ∷ Stands "ab^|c" ∷ [])
    ∷ example "ab|c^" (Mark ∷ []) (Goes 0 ∷ Stands "ab^|c" ∷ [])
    ∷ example "^ab|cd" (Cut ∷ delete_right Character ∷ Mark ∷ []) (Goes 0 ∷ Stands "^|d" ∷ Holds "ab|" ∷ Recalls "|c" ∷ [])
    ∷ example "a|bcd" (replacing ++ (Mark ∷ []))
    (Goes 0 ∷ Stands "ax^|yzd" ∷ Pattern "bc" ∷ Replacement "x|yz" ∷ Recalls "|bc" ∷ Holds "|" ∷ In Main ∷ [])
    ∷ [])
    ∷ sentence "at opening there is no mark, and no other key than MARK sets one"
    (example "ab|c" (move_left Character ∷ Insert 120 ∷ delete_right Character ∷ Recall ∷ Paste ∷ []) (Goes 0 ∷ Stands "ax|bc" ∷ Holds "|" ∷ [])
    ∷ example "a|bcd" replacing (Goes 0 ∷ Stands "ax|yzd" ∷ [])
    ∷ [])
    ∷ sentence "moves and searches leave the mark, also with the bell"
    (example "a^b|c" (move_right Character ∷ []) (Goes 1 ∷ Stands "a^bc|" ∷ [])
    ∷ example "ab ^c|d" (move_left Document ∷ []) (Goes 4 ∷ Stands "|ab ^cd" ∷ [])
    ∷ example "a^b|" (move_right Word ∷ []) (Rings ∷ Stands "a^b|" ∷ [])
    ∷ example "|ab ^ab" (quoting "ab" (Find Right)) (Goes 3 ∷ Stands "ab ^|ab" ∷ [])
    ∷ example "ab a^b|" (quoting "ab" (Find Left)) (Goes 2 ∷ Stands "ab |a^b" ∷ [])
    ∷ example "a^b|" (quoting "x" (Find Right)) (Rings ∷ Stands "a^b|" ∷ [])
    ∷ [])
    ∷ sentence "what is inserted wholly to its left moves the mark by as many bytes; what is inserted to its right leaves it"
    (example "a|b^c" (Insert 120 ∷ []) (Goes 0 ∷ Stands "ax|b^c" ∷ [])
    ∷ example "|ab^" (typed "xyz") (Goes 0 ∷ Stands "xyz|ab^" ∷ [])
    ∷ example "a^b|c" (typed "xy") (Goes 0 ∷ Stands "a^bxy|c" ∷ [])
    ∷ [])
    ∷ sentence "insertion at the mark goes after it"
    (example "ab^|c" (Insert 120 ∷ []) (Goes 0 ∷ Stands "ab^x|c" ∷ [])
    ∷ example "^|" (typed "xy") (Goes 0 ∷ Stands "^xy|" ∷ [])
    ∷ example "ab|^" (typed "\n") (Goes 0 ∷ Stands "ab^\n|" ∷ [])
    ∷ [])
    ∷ sentence "a deletion leftward: to the left of the stretch the mark stays; at an end of it too; inside it is taken away; behind it moves"
    (example "a^b cde|f" (delete_left Word ∷ []) (Goes 3 ∷ Stands "a^b |f" ∷ [])
    ∷ example "ab ^cde|f" (delete_left Word ∷ []) (Goes 3 ∷ Stands "ab ^|f" ∷ [])
    ∷ example "ab c^de|f" (delete_left Word ∷ []) (Goes 3 ∷ Stands "ab |f" ∷ [])
    ∷ example "ab cd^e|f" (delete_left Word ∷ []) (Goes 3 ∷ Stands "ab |f" ∷ [])
    ∷ example "ab cde^|f" (delete_left Word ∷ []) (Goes 3 ∷ Stands "ab ^|f" ∷ [])
    ∷ example "ab cde|f^" (delete_left Word ∷ []) (Goes 3 ∷ Stands "ab |f^" ∷ [])
    ∷ example "a\nb|c^d" (delete_left Document ∷ []) (Crosses 3 1 ∷ Stands "|c^d" ∷ [])
    ∷ [])
    ∷ sentence "a deletion rightward likewise"
    (example "^a|bc de" (delete_right Word ∷ []) (Goes 3 ∷ Stands "^a|de" ∷ [])
    ∷ example "a^|bc de" (delete_right Word ∷ []) (Goes 3 ∷ Stands "a^|de" ∷ [])
    ∷ example "a|b^c de" (delete_right Word ∷ []) (Goes 3 ∷ Stands "a|de" ∷ [])
    ∷ example "a|bc^ de" (delete_right Word ∷ []) (Goes 3 ∷ Stands "a|de" ∷ [])
    ∷ example "a|bc ^de" (delete_right Word ∷ []) (Goes 3 ∷ Stands "a^|de" ∷ [])
    ∷ example "a|bc d^e" (delete_right Word ∷ []) (Goes 3 ∷ Stands "a|d^e" ∷ [])
    ∷ example "|a\nb^" (delete_right Document ∷ []) (Crosses 3 1 ∷ Stands "^|" ∷ [])
    ∷ [])
    ∷ sentence "one byte has no inside; a deletion with the bell, or refused, leaves the mark"
    (example "a^b|c" (delete_left Character ∷ []) (Goes 1 ∷ Stands "a^|c" ∷ [])
    ∷ example "ab^|c" (delete_left Character ∷ []) (Goes 1 ∷ Stands "a^|c" ∷ [])
    ∷ example "a|b^c" (delete_right Character ∷ []) (Goes 1 ∷ Stands "a^|c" ∷ [])
    ∷ example "a|b^c" (delete_right Word ∷ []) (Rings ∷ Stands "a|b^c" ∷ [])
    ∷ example "|a^b" (delete_left Word ∷ []) (Rings ∷ Stands "|a^b" ∷ [])
    ∷ example "a\nb^c|" (delete_left LineEnding ∷ []) (Refused 5 ∷ Stands "a\nb^c|" ∷ [])
    ∷ [])
    ∷ sentence "RECALL is an insertion, of either half: at the mark it goes after it; and it brings back no mark"
    (example "a^b cd|e" (delete_left Word ∷ Recall ∷ []) (Goes 0 ∷ Stands "a^b cd|e" ∷ [])
    ∷ example "ab ^cd|e" (delete_left Word ∷ Recall ∷ []) (Goes 0 ∷ Stands "ab ^cd|e" ∷ [])
    ∷ example "ab cd^|e" (delete_left Word ∷ Recall ∷ []) (Goes 0 ∷ Stands "ab ^cd|e" ∷ [])
    ∷ example "ab cd|e^f" (delete_left Word ∷ Recall ∷ Recall ∷ []) (Goes 0 ∷ Stands "ab cdcd|e^f" ∷ [])
    ∷ example "^a|bc de" (delete_right Word ∷ Recall ∷ []) (Goes 0 ∷ Stands "^a|bc de" ∷ [])
    ∷ example "a^|bc de" (delete_right Word ∷ Recall ∷ []) (Goes 0 ∷ Stands "a^|bc de" ∷ [])
    ∷ example "a|bc ^de" (delete_right Word ∷ Recall ∷ []) (Goes 0 ∷ Stands "a^|bc de" ∷ [])
    ∷ example "a|bc d^e" (delete_right Word ∷ Recall ∷ Recall ∷ []) (Goes 0 ∷ Stands "a|bc bc d^e" ∷ [])
    ∷ example "a|b^c de" (delete_right Word ∷ Recall ∷ []) (Goes 0 ∷ Stands "a|bc de" ∷ [])
    ∷ [])
    ∷ sentence "REPLACE deletes, then inserts: at the pattern's end the mark ends before the replacement; a quoted REPLACE moves it too"
    (example "^a|bcd" replacing (Goes 0 ∷ Stands "^ax|yzd" ∷ [])
    ∷ example "a^|bcd" replacing (Goes 0 ∷ Stands "a^x|yzd" ∷ [])
    ∷ example "a|b^cd" replacing (Goes 0 ∷ Stands "ax|yzd" ∷ [])
    ∷ example "a|bc^d" replacing (Goes 0 ∷ Stands "a^x|yzd" ∷ [])
    ∷ example "a|bcd^" replacing (Goes 0 ∷ Stands "ax|yzd^" ∷ [])
    ∷ example "a|bcd^" (storing ++ quoting "" Replace) (Goes 0 ∷ Stands "a|d^" ∷ [])
    ∷ example "a|bc^d" (storing ++ quoting "" Replace) (Goes 0 ∷ Stands "a^|d" ∷ [])
    ∷ [])
    ∷ sentence "in MAIN likewise, with the stored pair"
    (example "|a^bcd" (replacing ++ (move_right Character ∷ Replace ∷ [])) (Goes 0 ∷ Stands "a^x|yzd" ∷ [])
    ∷ example "|ab^cd" (replacing ++ (move_right Character ∷ Replace ∷ [])) (Goes 0 ∷ Stands "ax|yzd" ∷ [])
    ∷ example "|abc^d" (replacing ++ (move_right Character ∷ Replace ∷ [])) (Goes 0 ∷ Stands "a^x|yzd" ∷ [])
    ∷ example "|abcd^" (replacing ++ (move_right Character ∷ Replace ∷ [])) (Goes 0 ∷ Stands "ax|yzd^" ∷ [])
    ∷ [])
    ∷ sentence "REPLACE with the bell, or refused, leaves the mark"
    (example "ac|c^d" replacing (Rings ∷ Stands "ac|c^d" ∷ Replacement "x|yz" ∷ [])
    ∷ example "ac|cd^e" (replacing ++ (Replace ∷ [])) (Rings ∷ Stands "ac|cd^e" ∷ [])
    ∷ example "ac|cde^" (replacing ++ (Replace ∷ [])) (Rings ∷ Stands "ac|cde^" ∷ [])
    ∷ example_in 4 "a|bcd^" replacing (Refused 6 ∷ Stands "a|bcd^" ∷ In Quoted ∷ [])
    ∷ [])
    ∷ sentence "REPLACE of an empty pattern is an insertion only"
    (example "a^b|c" (quoting "xy" Replace) (Goes 0 ∷ Stands "a^bxy|c" ∷ [])
    ∷ example "a^|b" (quoting "xy" Replace) (Goes 0 ∷ Stands "a^xy|b" ∷ [])
    ∷ example "|a^b" (quoting "xy" Replace) (Goes 0 ∷ Stands "xy|a^b" ∷ [])
    ∷ example "|a^b" (Replace ∷ []) (Goes 0 ∷ Stands "|a^b" ∷ [])
    ∷ [])
    ∷ sentence "the mark stays through QUOTED: no key on the quotation moves it or takes it away"
    (example "ab|c^d" (Quote ∷ []) (Goes 0 ∷ Stands "ab|c^d" ∷ In Quoted ∷ [])
    ∷ example "ab|c^d" (quoting "x" (Insert 121)) (Goes 0 ∷ Stands "ab|c^d" ∷ Quotation "xy|" ∷ [])
    ∷ example "a^b|cd" (quoting "xyz" (delete_left Document)) (Goes 3 ∷ Stands "a^b|cd" ∷ Quotation "|" ∷ [])
    ∷ example "ab|c^d" (quoting "xy" (move_left Document) ++ (delete_right Document ∷ [])) (Goes 2 ∷ Stands "ab|c^d" ∷ Quotation "|" ∷ [])
    ∷ example "ab|c^d" (delete_left Character ∷ quoting "xy" (delete_left Character) ++ (Recall ∷ []))
    (Goes 0 ∷ Stands "a|c^d" ∷ Recalls "b|" ∷ Quotation "xy|" ∷ ItsRecalls "y|" ∷ [])
    ∷ example "ab|c^d" (quoting "xy" Quote) (Goes 0 ∷ Stands "ab|c^d" ∷ In Main ∷ [])
    ∷ [])
    ∷ sentence "a refused key leaves the mark"
    (example_in 3 "a|b^c" (Insert 120 ∷ []) (Refused 6 ∷ Stands "a|b^c" ∷ [])
    ∷ example "a|b^c" (Insert 9 ∷ []) (Refused 5 ∷ Stands "a|b^c" ∷ [])
    ∷ example_in 3 "ab|c^" (delete_left Character ∷ Recall ∷ Recall ∷ []) (Refused 6 ∷ Stands "ab|c^" ∷ [])
    ∷ [])
    ∷ []

-- ---- The mark in numbers, and what each key changes

-- From position 3 on 4 bytes go, and 2 come.
abbrev pub through : Option ℕ → Option ℕ
through mark = mark_through 3 4 2 mark

abbrev pub is_change : Change → ℕ → ℕ → String → Bool
is_change c before behind put = (eqb c.before before && eqb c.behind behind) && is_doc c.put put

-- What a key changes where these were pressed before it: so many bytes before the cursor go and so many behind it, and a pair comes.
abbrev pub change_at : Plain → Key → Change
change_at p k = change_of k p (acted k p)

abbrev pub changes : String → List Key → Key → ℕ → ℕ → String → Bool
changes at before k gone goneBehind put = is_change (change_at (seen_in (example at before [])).state k) gone goneBehind put

abbrev pub change_pins : List (Sentence Bool)
change_pins =
    sentence "up to the stretch's beginning the mark stays, inside it goes, at the end it is where the stretch began, behind it moves"
    (same_marking (through None) None
    ∷ same_marking (through (Some 0)) (Some 0)
    ∷ same_marking (through (Some 2)) (Some 2)
    ∷ same_marking (through (Some 3)) (Some 3)
    ∷ same_marking (through (Some 4)) None
    ∷ same_marking (through (Some 6)) None
    ∷ same_marking (through (Some 7)) (Some 3)
    ∷ same_marking (through (Some 8)) (Some 6)
    ∷ same_marking (through (Some 20)) (Some 18)
    ∷ [])
    ∷ sentence "where nothing goes it is an insertion, where nothing comes a deletion, and where neither is nothing moves"
    (same_marking (mark_through 3 0 2 (Some 3)) (Some 3)
    ∷ same_marking (mark_through 3 0 2 (Some 4)) (Some 6)
    ∷ same_marking (mark_through 3 4 0 (Some 7)) (Some 3)
    ∷ same_marking (mark_through 3 4 0 (Some 8)) (Some 4)
    ∷ same_marking (mark_through 3 0 0 (Some 3)) (Some 3)
    ∷ same_marking (mark_through 3 0 0 (Some 4)) (Some 4)
    ∷ [])
    ∷ sentence "the document changes by an insertion, a deletion's steps, the recall pair, REPLACE at a match, what lies up to the mark, the held pair"
    (changes "ab|c" [] (Insert 120) 0 0 "x|"
    ∷ changes "ab cd|e" [] (delete_left Word) 2 0 "|"
    ∷ changes "a|bc de" [] (delete_right Word) 0 3 "|"
    ∷ changes "ab|" [] (delete_right Character) 0 0 "|"
    ∷ changes "ab|c" (delete_left Character ∷ []) Recall 0 0 "b|"
    ∷ changes "ab|c" (delete_right Character ∷ []) Recall 0 0 "|c"
    ∷ changes "a|bcd" (storing ++ quoting "xyz" (move_left Character)) Replace 0 2 "xy|z"
    ∷ changes "|abcd" (replacing ++ (move_right Character ∷ [])) Replace 0 2 "x|yz"
    ∷ changes "ac|cd" (storing ++ quoting "xyz" (move_left Character)) Replace 0 0 "|"
    ∷ changes "ab^cde|f" [] Cut 3 0 "|"
    ∷ changes "ab|cde^f" [] Cut 0 3 "|"
    ∷ changes "ab^|c" [] Cut 0 0 "|"
    ∷ changes "ab|c" [] Cut 0 0 "|"
    ∷ changes "ab^cde|f" (Cut ∷ []) Paste 0 0 "cde|"
    ∷ changes "ab|cde^f" (Cut ∷ []) Paste 0 0 "|cde"
    ∷ [])
    ∷ sentence "it does not change by a move, QUOTE, FIND, UPFIND or MARK, nor by a key on the quotation"
    (changes "ab^cd|e" (Cut ∷ delete_left Character ∷ []) (move_right Character) 0 0 "|"
    ∷ changes "ab^cd|e" (Cut ∷ delete_left Character ∷ []) Quote 0 0 "|"
    ∷ changes "ab^cd|e" (Cut ∷ delete_left Character ∷ []) (Find Left) 0 0 "|"
    ∷ changes "|abc" (Quote ∷ typed "b") (Find Right) 0 0 "|"
    ∷ changes "ab^cd|e" (Cut ∷ delete_left Character ∷ []) Mark 0 0 "|"
    ∷ changes "a^b|c" [] Mark 0 0 "|"
    ∷ changes "ab|c" (Quote ∷ typed "x") (Insert 121) 0 0 "|"
    ∷ changes "ab|c" (Quote ∷ typed "x") (delete_left Character) 0 0 "|"
    ∷ changes "ab|c" (Quote ∷ typed "x" ++ (move_left Character ∷ [])) (delete_right Character) 0 0 "|"
    ∷ changes "ab|c" (delete_left Character ∷ Quote ∷ []) Recall 0 0 "|"
    ∷ [])
    ∷ []
