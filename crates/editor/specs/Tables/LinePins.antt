-- What request M-106 says of long lines, on documents of one letter, for so long a line cannot be read.
use Rattle.std.specs.Prelude.{List, [], ◌∷◌, Bool, not, ℕ, eqb, length, Some}
use Rattle.editor.specs.Words.{Quoted, Character, Document}
use Rattle.editor.specs.Words.{Key, Insert, Recall, Quote, Replace, Mark, Cut, Paste, Newline, Tab}
use Rattle.gap.specs.Rules.Sequence.{zeros}
use Rattle.gap.specs.Rules.Doc.{content, times}
use Rattle.gap.specs.Rules.Lines.{newline}
use Rattle.gap.specs.Tables.Sentence.{Sentence, sentence}
use Rattle.gap.specs.Tables.Written.{is_doc}
use Rattle.editor.specs.Rules.Plain.{Plain, quiet}
use Rattle.editor.specs.Rules.LongLines.{longest_line}
use Rattle.editor.specs.Rules.Bytes.{editor_ok, opening_lengths}
use Rattle.editor.specs.Tables.KeyExamples.{Seen, seeing, standing, same_mode, same_marking, move_right, move_left, delete_left, delete_right}

-- So many letters in a row, in front of what follows.
abbrev pub letters : ℕ → List ℕ → List ℕ
letters n rest = times (◌∷◌ 97) n rest

-- Behind the keys, in a store of so many bytes, with the cursor between two texts.
abbrev pub seen_from : ℕ → List ℕ → List ℕ → List Key → Seen
seen_from T l r keys = seeing T keys (record { code = 0; report = quiet; state = standing (record { l = l; r = r }) })

-- The last key is accepted, or refused with a number.
abbrev pub goes : ℕ → List ℕ → List ℕ → List Key → Bool
goes T l r keys = eqb (seen_from T l r keys).code 0

abbrev pub refuses : ℕ → ℕ → List ℕ → List ℕ → List Key → Bool
refuses n T l r keys = eqb (seen_from T l r keys).code n

-- A store full of one line of so many letters is a session's text.
abbrev pub full_line : ℕ → Bool
full_line n = editor_ok 1 (opening_lengths n) (record { text = letters n []; recall = zeros n; held = zeros n; side = zeros 4 })

-- Behind a deletion that is refused as LINE, of the newline between 500 letters and 525, after a CUT of an a and a deletion of a b.
abbrev pub joined : Plain
joined =
    (seen_from 1100 (letters 501 []) (98 ∷ newline ∷ letters 525 [])
    (Mark ∷ move_left Character ∷ Cut ∷ delete_right Character ∷ move_right Character ∷ Mark ∷ delete_left Character ∷ [])).state

-- Behind a REPLACE that is.
abbrev pub replacing : Plain
replacing = (seen_from 1100 (letters 1024 []) [] (Quote ∷ Insert 97 ∷ Replace ∷ [])).state

abbrev pub line_pins : List (Sentence Bool)
line_pins =
    sentence "the reader stops at 1,024 bytes a line" (eqb longest_line 1024 ∷ [])
    ∷ sentence "any key whose finished document would have a line of more than 1,024 bytes, newline not counted"
    (goes 1100 (letters 1023 []) [] (Insert 97 ∷ [])
    ∷ refuses 8 1100 (letters 1024 []) [] (Insert 97 ∷ [])
    ∷ goes 1100 (letters 600 []) (letters 423 (newline ∷ letters 5 [])) (Insert 97 ∷ [])
    ∷ refuses 8 1100 (letters 600 []) (letters 424 (newline ∷ letters 5 [])) (Insert 97 ∷ [])
    ∷ goes 1100 (letters 5 (newline ∷ letters 600 [])) (letters 423 []) (Insert 97 ∷ [])
    ∷ goes 1100 (letters 1017 []) [] (Tab ∷ [])
    ∷ refuses 8 1100 (letters 1017 []) (letters 1 []) (Tab ∷ [])
    ∷ [])
    ∷ sentence "a line that is broken becomes no longer"
    (goes 1100 (letters 1024 []) [] (Insert newline ∷ []) ∷ goes 1100 (letters 500 []) (letters 524 []) (Newline ∷ []) ∷ [])
    ∷ sentence "joins by deletion included"
    (goes 1100 (letters 500 (newline ∷ [])) (letters 524 []) (delete_left Character ∷ [])
    ∷ refuses 8 1100 (letters 500 (newline ∷ [])) (letters 525 []) (delete_left Character ∷ [])
    ∷ goes 1100 (letters 500 []) (newline ∷ letters 524 []) (delete_right Character ∷ [])
    ∷ refuses 8 1100 (letters 500 []) (newline ∷ letters 525 []) (delete_right Character ∷ [])
    ∷ goes 1100 (letters 500 []) (newline ∷ letters 524 []) (Mark ∷ move_right Character ∷ Cut ∷ [])
    ∷ refuses 8 1100 (letters 500 []) (newline ∷ letters 525 []) (Mark ∷ move_right Character ∷ Cut ∷ [])
    ∷ [])
    ∷ sentence "what RECALL, PASTE and REPLACE put in counts"
    (refuses 8 1100 (letters 1000 []) (letters 24 []) (delete_right Document ∷ Insert 97 ∷ Recall ∷ [])
    ∷ goes 1100 (letters 1000 []) (letters 24 []) (delete_right Document ∷ Recall ∷ [])
    ∷ refuses 8 1100 (letters 1020 []) (letters 3 []) (Mark ∷ move_right Character ∷ Cut ∷ Paste ∷ Paste ∷ Paste ∷ [])
    ∷ goes 1100 (letters 1020 []) (letters 3 []) (Mark ∷ move_right Character ∷ Cut ∷ Paste ∷ Paste ∷ [])
    ∷ refuses 8 1100 (letters 1024 []) [] (Quote ∷ Insert 97 ∷ Replace ∷ [])
    ∷ goes 1100 (letters 1023 []) [] (Quote ∷ Insert 97 ∷ Replace ∷ [])
    ∷ goes 1100 (letters 1024 []) [] (Quote ∷ Insert newline ∷ Replace ∷ [])
    ∷ [])
    ∷ sentence "for a key after FULL"
    (refuses 6 1024 (letters 1024 []) [] (Insert 97 ∷ [])
    ∷ refuses 8 1025 (letters 1024 []) [] (Insert 97 ∷ [])
    ∷ refuses 6 1024 (letters 1024 []) [] (Quote ∷ Insert 97 ∷ Replace ∷ [])
    ∷ [])
    ∷ sentence "a refused deletion leaves text, recall text, held pair and mark"
    (is_doc joined.main.recall "|b"
    ∷ is_doc joined.held "|a"
    ∷ same_marking joined.mark (Some 501)
    ∷ eqb (length (content joined.main.text)) 1026
    ∷ [])
    ∷ sentence "the quotation has no such limit, and the document with the quotation in it is not looked at"
    (goes 1100 (letters 1024 []) [] (Quote ∷ Insert 97 ∷ Insert 97 ∷ []) ∷ goes 1100 (letters 1024 []) [] (Quote ∷ Tab ∷ []) ∷ [])
    ∷ sentence "a refused REPLACE stays in QUOTED with everything as it was"
    (same_mode replacing.mode Quoted ∷ is_doc replacing.quoted.text "a|" ∷ is_doc replacing.replacement "|" ∷ [])
    ∷ sentence "a session needs it too" (full_line 1024 ∷ not (full_line 1025) ∷ [])
    ∷ []
