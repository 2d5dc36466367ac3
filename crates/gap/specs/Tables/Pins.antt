-- The definitions of this layer on small texts. proofs/Theorems/Pins computes them all.
use Rattle.std.specs.Prelude.{List, [], ◌∷◌, ◌++◌, Bool, true, false, not, ◌&&◌, ℕ, suc, eqb, leb, length}
use Rattle.gap.specs.Words.{Left, Right}
use Rattle.gap.specs.Rules.Sequence.{but_last, last_of, every, same_bytes, begins, part, patch, zeros, counted}
use Rattle.gap.specs.Rules.Strings.{bytes}
use Rattle.gap.specs.Rules.Numbers.{bit}
use Rattle.gap.specs.Rules.Checks.{check, unless, first_failed}
use Rattle.gap.specs.Rules.Doc.{empty, content, room, move, delete, times, passed, removed, splice}
use Rattle.gap.specs.Rules.Nearest.{nearest, distance}
use Rattle.gap.specs.Rules.Lines.{newlines, since_after, since, lines}
use Rattle.gap.specs.Rules.Indents.{space, spaces, leading, current_line, indent}
use Rattle.gap.specs.Rules.Layout.{printable, allowed, free, spare, gapped, paired, ungap, unpair, sound_gap, sound_pair}
use Rattle.gap.specs.Rules.Decimal.{digit, worth, value, is_number, number_of, word_digits, decimal}
use Rattle.gap.specs.Rules.Fields.{line_of, line_at, end_at, ended, next_at, line_number, field_of, header_at, entry}
use Rattle.gap.specs.Rules.LineLimits.{none_longer, lines_fit, begins_line, long_line}
use Rattle.gap.specs.Wording.LinesAfter.{lines_fit_after}
use Rattle.gap.specs.Tables.Sentence.{Sentence, sentence}
use Rattle.gap.specs.Tables.Written.{marked, stored, is_bytes, is_store, is_doc, is_reached, is_nowhere, is_read, is_unreadable}

-- ---- Sequences

-- Each of the tests below compares by `same_bytes` or `eqb`, so that these come first.
abbrev pub sequence_pins : List (Sentence Bool)
sequence_pins =
    sentence "two runs are the same where they have the same bytes"
    (same_bytes [] []
    ∷ same_bytes (97 ∷ 98 ∷ []) (97 ∷ 98 ∷ [])
    ∷ not (same_bytes [] (97 ∷ []))
    ∷ not (same_bytes (97 ∷ []) [])
    ∷ not (same_bytes (97 ∷ 98 ∷ []) (97 ∷ 99 ∷ []))
    ∷ not (same_bytes (97 ∷ 98 ∷ []) (98 ∷ 98 ∷ []))
    ∷ [])
    ∷ sentence "a word of the documents is the codes of its letters"
    (same_bytes (bytes "a |\n") (97 ∷ 32 ∷ 124 ∷ 10 ∷ []) ∷ same_bytes (bytes "") [] ∷ [])
    ∷ sentence "001: a sequence without its last byte, and that byte alone"
    (is_bytes (but_last (bytes "abc")) "ab"
    ∷ is_bytes (but_last []) ""
    ∷ is_bytes (last_of (bytes "abc")) "c"
    ∷ is_bytes (last_of []) ""
    ∷ [])
    ∷ sentence "every byte passes a test"
    (every (leb 97) (bytes "abc") ∷ every (leb 97) [] ∷ not (every (leb 97) (bytes "Abc")) ∷ not (every (leb 97) (bytes "abC")) ∷ [])
    ∷ sentence "a text begins with the pattern; with an empty one always, and never with a longer one"
    (begins (bytes "ab") (bytes "abc")
    ∷ begins (bytes "ab") (bytes "ab")
    ∷ begins [] (bytes "ab")
    ∷ begins [] []
    ∷ not (begins (bytes "ab") (bytes "a"))
    ∷ not (begins (bytes "ab") (bytes "aab"))
    ∷ not (begins (bytes "a") [])
    ∷ [])
    ∷ sentence "parts of a store are handed on from where they start"
    (is_bytes (part 1 2 (bytes "abcd")) "bc"
    ∷ is_bytes (part 0 4 (bytes "abcd")) "abcd"
    ∷ is_bytes (patch 1 (bytes "xy") (bytes "abcd")) "axyd"
    ∷ is_bytes (patch 0 [] (bytes "abcd")) "abcd"
    ∷ [])
    ∷ sentence "zeros, and numbers in a row" (same_bytes (zeros 3) (0 ∷ 0 ∷ 0 ∷ []) ∷ same_bytes (counted 3 5) (5 ∷ 6 ∷ 7 ∷ []) ∷ [])
    ∷ sentence "the bell is 0 or 1" (eqb (bit true) 1 ∷ eqb (bit false) 0 ∷ [])
    ∷ sentence "the first check that fails gives its number"
    (eqb (first_failed []) 0
    ∷ eqb (first_failed (check 1 true ∷ check 4 true ∷ [])) 0
    ∷ eqb (first_failed (check 1 true ∷ check 4 false ∷ check 5 false ∷ [])) 4
    ∷ eqb (unless (check 1 false ∷ check 4 true ∷ []) (λ n. n) 9) 1
    ∷ eqb (unless (check 1 true ∷ check 4 true ∷ []) (λ n. n) 9) 9
    ∷ [])
    ∷ []

-- ---- Documents

abbrev pub document_pins : List (Sentence Bool)
document_pins =
    sentence "a document is the text left and right of the cursor"
    (is_bytes (content (marked "ab|cd")) "abcd"
    ∷ is_doc empty "|"
    ∷ eqb (room Left (marked "ab|c")) 2
    ∷ eqb (room Right (marked "ab|c")) 1
    ∷ [])
    ∷ sentence "a left move takes the last of l to the front of r; right is the mirror image; at an end there is none"
    (is_doc (move Left (marked "ab|cd")) "a|bcd"
    ∷ is_doc (move Right (marked "ab|cd")) "abc|d"
    ∷ is_doc (move Left (marked "|cd")) "|cd"
    ∷ is_doc (move Right (marked "ab|")) "ab|"
    ∷ [])
    ∷ sentence "a left deletion drops the last of l; right is the mirror image"
    (is_doc (delete Left (marked "ab|cd")) "a|cd"
    ∷ is_doc (delete Right (marked "ab|cd")) "ab|d"
    ∷ is_doc (delete Left (marked "|cd")) "|cd"
    ∷ is_doc (delete Right (marked "ab|")) "ab|"
    ∷ [])
    ∷ sentence "d single steps, one after the other"
    (is_doc (times (move Left) 2 (marked "abc|d")) "a|bcd"
    ∷ is_doc (times (delete Right) 3 (marked "a|bcde")) "a|e"
    ∷ is_doc (times (move Left) 0 (marked "ab|cd")) "ab|cd"
    ∷ eqb (times suc 3 0) 3
    ∷ [])
    ∷ sentence "what deletions removed: (x, empty) leftward, (empty, x) rightward, as it stood in the text"
    (is_bytes (passed Left 2 (marked "abc|de")) "bc"
    ∷ is_bytes (passed Right 2 (marked "a|bcd")) "bc"
    ∷ is_doc (removed Left 2 (marked "abc|de")) "bc|"
    ∷ is_doc (removed Right 2 (marked "a|bcd")) "|bc"
    ∷ [])
    ∷ sentence "insertion appends to l; RECALL and REPLACE put a pair around the cursor, and REPLACE takes the front of r away"
    (is_doc (splice 0 0 (marked "x|") (marked "ab|cd")) "abx|cd"
    ∷ is_doc (splice 0 0 (marked "xy|zw") (marked "ab|cd")) "abxy|zwcd"
    ∷ is_doc (splice 1 2 (marked "x|y") (marked "ab|cde")) "ax|ye"
    ∷ [])
    ∷ sentence "the nearest number that passes: the least of n from k on"
    (is_reached (nearest (leb 2) 5 1) 2
    ∷ is_reached (nearest (leb 2) 5 4) 4
    ∷ is_reached (nearest (eqb 5) 5 1) 5
    ∷ is_nowhere (nearest (eqb 6) 5 1)
    ∷ is_nowhere (nearest (eqb 0) 5 1)
    ∷ is_nowhere (nearest (leb 0) 0 1)
    ∷ [])
    ∷ sentence "the distance is the least d > 0 at which d moves reach the place; all moves that there are count"
    (is_reached (distance Right (λ d. leb 1 (length d.l)) (marked "ab|cd")) 1
    ∷ is_reached (distance Left (λ d. leb (length d.l) 1) (marked "abc|d")) 2
    ∷ is_reached (distance Left (λ d. eqb (length d.l) 0) (marked "abc|d")) 3
    ∷ is_reached (distance Right (λ d. eqb (length d.r) 0) (marked "a|bcd")) 3
    ∷ is_nowhere (distance Right (λ d. eqb (length d.l) 1) (marked "a|bcd"))
    ∷ is_nowhere (distance Left (λ d. true) (marked "|a"))
    ∷ [])
    ∷ []

-- ---- Lines

abbrev pub is_lines : List (List ℕ) → List (List ℕ) → Bool
is_lines [] [] = true
is_lines [] (t ∷ ts) = false
is_lines (s ∷ ss) [] = false
is_lines (s ∷ ss) (t ∷ ts) = same_bytes s t && is_lines ss ts

abbrev pub line_pins : List (Sentence Bool)
line_pins =
    sentence "lines are what newlines separate"
    (is_lines (lines (bytes "ab\n\nc")) (bytes "ab" ∷ [] ∷ bytes "c" ∷ [])
    ∷ is_lines (lines (bytes "a\n")) (bytes "a" ∷ [] ∷ [])
    ∷ is_lines (lines (bytes "\na")) ([] ∷ bytes "a" ∷ [])
    ∷ is_lines (lines []) ([] ∷ [])
    ∷ [])
    ∷ sentence "newlines to the left, and bytes since the last newline"
    (eqb (newlines (bytes "ab\n\nc")) 2
    ∷ eqb (newlines (bytes "abc")) 0
    ∷ eqb (since (bytes "ab\ncde")) 3
    ∷ eqb (since (bytes "ab\n")) 0
    ∷ eqb (since (bytes "abc")) 3
    ∷ eqb (since_after 4 (bytes "ab")) 6
    ∷ eqb (since_after 4 (bytes "a\nb")) 1
    ∷ [])
    ∷ sentence "M-105: the spaces that a text begins with, and no others"
    (eqb (leading (bytes "  foo bar")) 2
    ∷ eqb (leading (bytes "foo")) 0
    ∷ eqb (leading (bytes "   ")) 3
    ∷ eqb (leading (bytes "")) 0
    ∷ eqb (leading (bytes "\n  foo")) 0
    ∷ eqb (leading (bytes " a b")) 1
    ∷ same_bytes (spaces 3) (bytes "   ")
    ∷ same_bytes (spaces 0) []
    ∷ eqb space 32
    ∷ [])
    ∷ sentence "M-105: leading spaces of the current line left of the cursor, those of other lines and those right of it not counted"
    (is_bytes (current_line (bytes "ab\n  cd")) "  cd"
    ∷ is_bytes (current_line (bytes "  cd")) "  cd"
    ∷ is_bytes (current_line (bytes "ab\n")) ""
    ∷ eqb (indent (bytes "ab\n  cd")) 2
    ∷ eqb (indent (bytes "  ab\ncd")) 0
    ∷ eqb (indent (bytes "  ab\n")) 0
    ∷ eqb (indent (bytes "foo")) 0
    ∷ eqb (indent (marked "  ab\n | cd").l) 1
    ∷ eqb (indent (marked "|  foo").l) 0
    ∷ eqb (indent (bytes "  foo  bar")) 2
    ∷ [])
    ∷ []

-- ---- Stores

abbrev pub store_pins : List (Sentence Bool)
store_pins =
    sentence "allowed bytes are 10 and 32 to 126, and no other; 32 to 126 are printed; free bytes are 0"
    (every allowed (10 ∷ counted 95 32)
    ∷ every (λ b. not (allowed b)) (counted 10 0 ++ (counted 21 11 ++ counted 129 127))
    ∷ every printable (counted 95 32)
    ∷ every (λ b. not (printable b)) (counted 32 0 ++ counted 129 127)
    ∷ free 0
    ∷ every (λ b. not (free b)) (counted 255 1)
    ∷ [])
    ∷ sentence "a gap store: left text at the front, right text at the back, zeros between"
    (is_store (gapped 6 (marked "ab|c")) "ab___c"
    ∷ is_store (gapped 3 (marked "ab|c")) "abc"
    ∷ is_store (gapped 2 (marked "|")) "__"
    ∷ eqb (spare 6 (marked "ab|c")) 3
    ∷ is_doc (ungap 2 1 (stored "ab___c")) "ab|c"
    ∷ is_doc (ungap 0 0 (stored "___")) "|"
    ∷ [])
    ∷ sentence "a pair: the left text, the right text directly after it, zeros to the end"
    (is_store (paired 6 (marked "ab|c")) "abc___"
    ∷ is_store (paired 3 (marked "ab|c")) "abc"
    ∷ is_doc (unpair 2 1 (stored "abc___")) "ab|c"
    ∷ is_doc (unpair 0 2 (stored "ab_")) "|ab"
    ∷ [])
    ∷ sentence "a gap store is sound: the lengths fit, each free byte is 0, each text byte is allowed"
    (sound_gap 2 1 (stored "ab___c")
    ∷ sound_gap 2 1 (stored "abc")
    ∷ sound_gap 0 0 (stored "__")
    ∷ not (sound_gap 2 2 (stored "abc"))
    ∷ not (sound_gap 2 1 (stored "abx__c"))
    ∷ not (sound_gap 2 1 (stored "ab__xc"))
    ∷ not (sound_gap 2 1 (97 ∷ 9 ∷ 0 ∷ 99 ∷ []))
    ∷ not (sound_gap 2 1 (97 ∷ 98 ∷ 0 ∷ 127 ∷ []))
    ∷ [])
    ∷ sentence "a pair is sound likewise"
    (sound_pair 2 1 (stored "abc___")
    ∷ sound_pair 2 1 (stored "abc")
    ∷ not (sound_pair 2 2 (stored "abc"))
    ∷ not (sound_pair 2 1 (stored "abcx__"))
    ∷ not (sound_pair 2 1 (stored "abc__x"))
    ∷ not (sound_pair 2 1 (97 ∷ 9 ∷ 99 ∷ 0 ∷ []))
    ∷ not (sound_pair 2 1 (97 ∷ 98 ∷ 127 ∷ 0 ∷ []))
    ∷ [])
    ∷ []

-- ---- Numbers and fields

abbrev pub number_pins : List (Sentence Bool)
number_pins =
    sentence "digits are 0 to 9"
    (every digit (bytes "0123456789")
    ∷ not (digit 47)
    ∷ not (digit 58)
    ∷ eqb (worth 48) 0
    ∷ eqb (worth 57) 9
    ∷ eqb (value (bytes "1024")) 1024
    ∷ [])
    ∷ sentence "numbers have 1 to so many digits and no leading zero but 0 itself"
    (is_read (number_of 5 (bytes "0")) 0
    ∷ is_read (number_of 5 (bytes "7")) 7
    ∷ is_read (number_of 5 (bytes "10")) 10
    ∷ is_read (number_of 5 (bytes "99999")) 99999
    ∷ is_unreadable (number_of 5 (bytes "100000"))
    ∷ is_unreadable (number_of 5 [])
    ∷ is_unreadable (number_of 5 (bytes "00"))
    ∷ is_unreadable (number_of 5 (bytes "07"))
    ∷ is_unreadable (number_of 5 (bytes "+7"))
    ∷ is_unreadable (number_of 5 (bytes "7 "))
    ∷ is_unreadable (number_of 5 (bytes "1a"))
    ∷ not (is_number 1 (bytes "10"))
    ∷ eqb word_digits 19
    ∷ [])
    ∷ sentence "numbers are written in decimal without leading zeros"
    (is_bytes (decimal 0) "0"
    ∷ is_bytes (decimal 9) "9"
    ∷ is_bytes (decimal 10) "10"
    ∷ is_bytes (decimal 100) "100"
    ∷ is_bytes (decimal 305) "305"
    ∷ [])
    ∷ sentence "a line is what stands before the next newline; its number counts the newlines before it"
    (is_bytes (line_of (bytes "ab\nc")) "ab"
    ∷ is_bytes (line_of (bytes "ab")) "ab"
    ∷ is_bytes (line_at (bytes "ab\ncd\n") 3) "cd"
    ∷ eqb (end_at (bytes "ab\ncd\n") 3) 5
    ∷ ended (bytes "ab\ncd\n") 3
    ∷ not (ended (bytes "ab\ncd") 3)
    ∷ eqb (next_at (bytes "ab\ncd\n") 0) 3
    ∷ eqb (next_at (bytes "ab\ncd") 3) 5
    ∷ eqb (line_number (bytes "ab\ncd\n") 0) 1
    ∷ eqb (line_number (bytes "ab\ncd\n") 3) 2
    ∷ [])
    ∷ sentence "a field is a word and a number, read from a line that ends in a newline, and written with one"
    (is_read (field_of (bytes "rows=") 5 (bytes "rows=24")) 24
    ∷ is_unreadable (field_of (bytes "rows=") 5 (bytes "cols=24"))
    ∷ is_unreadable (field_of (bytes "rows=") 5 (bytes "rows="))
    ∷ is_read (header_at (bytes "b=") 5 (bytes "a=1\nb=2\n") 4) 2
    ∷ is_unreadable (header_at (bytes "b=") 5 (bytes "a=1\nb=2") 4)
    ∷ is_bytes (entry (bytes "steps=") 12) "steps=12\n"
    ∷ [])
    ∷ []

-- ---- Lines against a limit

abbrev pub limit_pins : List (Sentence Bool)
limit_pins =
    sentence "M-106: no line has more bytes than the limit, newline not counted; as many are good"
    (lines_fit 3 (bytes "abc")
    ∷ lines_fit 3 (bytes "abc\n")
    ∷ lines_fit 3 (bytes "abc\nabc\nabc")
    ∷ lines_fit 3 (bytes "ab\n\n\nc\n\n")
    ∷ lines_fit 3 []
    ∷ lines_fit 0 []
    ∷ lines_fit 0 (bytes "\n\n")
    ∷ not (lines_fit 0 (bytes "a"))
    ∷ not (lines_fit 3 (bytes "abcd"))
    ∷ not (lines_fit 3 (bytes "abcd\nabc"))
    ∷ not (lines_fit 3 (bytes "a\nabcd\nb"))
    ∷ not (lines_fit 3 (bytes "abc\n\nabcd"))
    ∷ none_longer 3 []
    ∷ none_longer 3 (bytes "abc" ∷ [] ∷ bytes "ab" ∷ [])
    ∷ not (none_longer 3 (bytes "abc" ∷ bytes "abcd" ∷ []))
    ∷ [])
    ∷ sentence "M-106: the place of the first byte of the first such line"
    (is_reached (long_line 3 (bytes "abcd")) 0
    ∷ is_reached (long_line 3 (bytes "ab\nabcd\nabcde")) 3
    ∷ is_reached (long_line 3 (bytes "\nabcde")) 1
    ∷ is_reached (long_line 3 (bytes "abcd\nabcd")) 0
    ∷ is_reached (long_line 0 (bytes "\na")) 1
    ∷ is_nowhere (long_line 3 (bytes "abc\nabc\n"))
    ∷ is_nowhere (long_line 3 [])
    ∷ begins_line (bytes "ab\nc") 0
    ∷ not (begins_line (bytes "ab\nc") 1)
    ∷ not (begins_line (bytes "ab\nc") 2)
    ∷ begins_line (bytes "ab\nc") 3
    ∷ begins_line (bytes "a\n\n") 3
    ∷ begins_line [] 0
    ∷ [])
    ∷ sentence "what stands before a text on its first line counts on that line alone"
    (lines_fit_after 3 2 (bytes "a\nabc")
    ∷ lines_fit_after 3 3 []
    ∷ lines_fit_after 3 3 (bytes "\nabc")
    ∷ not (lines_fit_after 3 3 (bytes "a\nb"))
    ∷ not (lines_fit_after 3 4 [])
    ∷ not (lines_fit_after 3 0 (bytes "a\nabcd"))
    ∷ [])
    ∷ []

abbrev pub pins : List (Sentence Bool)
pins = sequence_pins ++ (document_pins ++ (line_pins ++ (store_pins ++ (number_pins ++ limit_pins))))
