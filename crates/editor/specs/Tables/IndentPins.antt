-- What request M-105 says of NEWLINE and TAB, each sentence with its examples: `|` is the cursor, `^` the mark. Then the formula of 001.
use Rattle.std.specs.Prelude.{List, [], ◌∷◌, ◌++◌, Bool, not, ◌&&◌, cond, ℕ, zero, suc, ◌-◌, eqb, length, Option, Some, None}
use Rattle.editor.specs.Words.{Left, Character}
use Rattle.editor.specs.Words.{Insert, Recall, Quote, Newline, Tab, Quoted}
use Rattle.gap.specs.Rules.Strings.{bytes}
use Rattle.gap.specs.Rules.Doc.{Doc, move, times}
use Rattle.gap.specs.Rules.Nearest.{nearest}
use Rattle.gap.specs.Rules.Indents.{indent}
use Rattle.gap.specs.Tables.Sentence.{Sentence, sentence}
use Rattle.gap.specs.Tables.Written.{marked, is_bytes}
use Rattle.editor.specs.Rules.Places.{line_beginning, word}
use Rattle.editor.specs.Rules.Indents.{indented_line, spaces_to_tab}
use Rattle.editor.specs.Tables.KeyExamples.{KeyExample, Refused, Goes, Recalls, Quotation, ItsRecalls, In, Stands, example, example_in}
use Rattle.editor.specs.Tables.KeyExamples.{move_left, delete_left, delete_right, quoting}
use Rattle.editor.specs.Tables.MarkPins.{changes}

-- ---- NEWLINE

abbrev pub newline_pins : List (Sentence KeyExample)
newline_pins =
    sentence "NEWLINE inserts a newline and then as many spaces as the current line has leading spaces, and reports the bytes inserted"
    (example "  ab|" (Newline ∷ []) (Goes 3 ∷ Stands "  ab\n  |" ∷ [])
    ∷ example "foo|" (Newline ∷ []) (Goes 1 ∷ Stands "foo\n|" ∷ [])
    ∷ example "|" (Newline ∷ []) (Goes 1 ∷ Stands "\n|" ∷ [])
    ∷ example " a  b|" (Newline ∷ []) (Goes 2 ∷ Stands " a  b\n |" ∷ [])
    ∷ example "  a|" (Newline ∷ Newline ∷ []) (Goes 3 ∷ Stands "  a\n  \n  |" ∷ [])
    ∷ [])
    ∷ sentence "the text right of the cursor becomes part of the new line"
    (example "  ab|cd\nef" (Newline ∷ []) (Goes 3 ∷ Stands "  ab\n  |cd\nef" ∷ [])
    ∷ example "  ab| cd" (Newline ∷ []) (Goes 3 ∷ Stands "  ab\n  | cd" ∷ [])
    ∷ [])
    ∷ sentence "the current line alone counts, not the one above or below"
    (example "a\n   b|" (Newline ∷ []) (Goes 4 ∷ Stands "a\n   b\n   |" ∷ [])
    ∷ example "   a\n b|\n  c" (Newline ∷ []) (Goes 2 ∷ Stands "   a\n b\n |\n  c" ∷ [])
    ∷ example "  a\n|b" (Newline ∷ []) (Goes 1 ∷ Stands "  a\n\n|b" ∷ [])
    ∷ [])
    ∷ sentence "only spaces left of the cursor count"
    (example "|  foo" (Newline ∷ []) (Goes 1 ∷ Stands "\n|  foo" ∷ [])
    ∷ example " |  foo" (Newline ∷ []) (Goes 2 ∷ Stands " \n |  foo" ∷ [])
    ∷ example "a\n |  b" (Newline ∷ []) (Goes 2 ∷ Stands "a\n \n |  b" ∷ [])
    ∷ [])
    ∷ sentence "of a line of spaces only, all that stand left of the cursor count"
    (example "   |" (Newline ∷ []) (Goes 4 ∷ Stands "   \n   |" ∷ []) ∷ example "a\n  |\nb" (Newline ∷ []) (Goes 3 ∷ Stands "a\n  \n  |\nb" ∷ []) ∷ [])
    ∷ sentence "insert of byte 10 stays a plain newline" (example "  ab|c" (Insert 10 ∷ []) (Goes 0 ∷ Stands "  ab\n|c" ∷ []) ∷ [])
    ∷ sentence "it keeps the recall text"
    (example "  ab|c" (delete_left Character ∷ Newline ∷ []) (Goes 3 ∷ Stands "  a\n  |c" ∷ Recalls "b|" ∷ [])
    ∷ example " a|bc" (delete_right Character ∷ Newline ∷ Recall ∷ []) (Goes 0 ∷ Stands " a\n |bc" ∷ Recalls "|b" ∷ [])
    ∷ [])
    ∷ sentence "FULL, for the whole insertion: nothing goes in unless all of it fits"
    (example_in 8 "  ab|c" (Newline ∷ []) (Goes 3 ∷ Stands "  ab\n  |c" ∷ [])
    ∷ example_in 7 "  ab|c" (Newline ∷ []) (Refused 6 ∷ Stands "  ab|c" ∷ [])
    ∷ example_in 6 "  ab|c" (Newline ∷ []) (Refused 6 ∷ Stands "  ab|c" ∷ [])
    ∷ example_in 5 "  ab|c" (Newline ∷ []) (Refused 6 ∷ [])
    ∷ example_in 3 "ab|" (Newline ∷ []) (Goes 1 ∷ Stands "ab\n|" ∷ [])
    ∷ example_in 2 "ab|" (Newline ∷ []) (Refused 6 ∷ Stands "ab|" ∷ [])
    ∷ example_in 4 " a^b|" (delete_left Character ∷ Newline ∷ []) (Goes 2 ∷ Stands " a^\n |" ∷ Recalls "b|" ∷ [])
    ∷ [])
    ∷ sentence "the mark follows as through any insertion: it goes after the mark, and moves one to its right"
    (example "  ^ab|c" (Newline ∷ []) (Goes 3 ∷ Stands "  ^ab\n  |c" ∷ [])
    ∷ example "  ab^|c" (Newline ∷ []) (Goes 3 ∷ Stands "  ab^\n  |c" ∷ [])
    ∷ example "  ab|c^d" (Newline ∷ []) (Goes 3 ∷ Stands "  ab\n  |c^d" ∷ [])
    ∷ example_in 7 "  ab|c^" (Newline ∷ []) (Refused 6 ∷ Stands "  ab|c^" ∷ [])
    ∷ [])
    ∷ sentence "in QUOTED it acts in the quotation, by the quotation's own lines"
    (example "a|b^" (quoting "  x" Newline) (Goes 3 ∷ Stands "a|b^" ∷ Quotation "  x\n  |" ∷ In Quoted ∷ [])
    ∷ example "  a|" (quoting "x" Newline) (Goes 1 ∷ Stands "  a|" ∷ Quotation "x\n|" ∷ [])
    ∷ example "  a|" (quoting " xy" (delete_left Character) ++ (Newline ∷ []))
    (Goes 2 ∷ Stands "  a|" ∷ Recalls "|" ∷ Quotation " x\n |" ∷ ItsRecalls "y|" ∷ [])
    ∷ example "|" (quoting "  x" (move_left Character) ++ (move_left Character ∷ Newline ∷ [])) (Goes 2 ∷ Quotation " \n | x" ∷ [])
    ∷ example_in 1 "a|" (quoting " x" Newline) (Goes 2 ∷ Stands "a|" ∷ Quotation " x\n |" ∷ [])
    ∷ [])
    ∷ []

-- ---- TAB

abbrev pub tab_pins : List (Sentence KeyExample)
tab_pins =
    sentence "TAB inserts spaces up to the next column that is a multiple of eight, and reports the bytes inserted"
    (example "a|" (Tab ∷ []) (Goes 7 ∷ Stands "a       |" ∷ [])
    ∷ example "abc|de" (Tab ∷ []) (Goes 5 ∷ Stands "abc     |de" ∷ [])
    ∷ example "  |" (Tab ∷ []) (Goes 6 ∷ Stands "        |" ∷ [])
    ∷ example "abcdefg|" (Tab ∷ []) (Goes 1 ∷ Stands "abcdefg |" ∷ [])
    ∷ example "abcdefghi|" (Tab ∷ []) (Goes 7 ∷ Stands "abcdefghi       |" ∷ [])
    ∷ example "abcdefghijklmno|" (Tab ∷ []) (Goes 1 ∷ Stands "abcdefghijklmno |" ∷ [])
    ∷ example "abc|de" (Tab ∷ Insert 120 ∷ Tab ∷ []) (Goes 7 ∷ Stands "abc     x       |de" ∷ [])
    ∷ [])
    ∷ sentence "at least one: at such a column, eight"
    (example "|" (Tab ∷ []) (Goes 8 ∷ Stands "        |" ∷ [])
    ∷ example "abcdefgh|" (Tab ∷ []) (Goes 8 ∷ Stands "abcdefgh        |" ∷ [])
    ∷ example "a|" (Tab ∷ Tab ∷ []) (Goes 8 ∷ Stands "a               |" ∷ [])
    ∷ example_in 24 "abcdefghijklmnop|" (Tab ∷ []) (Goes 8 ∷ Stands "abcdefghijklmnop        |" ∷ [])
    ∷ [])
    ∷ sentence "the column is that of the cursor's line; what stands right of it does not count"
    (example "abcd\nef|" (Tab ∷ []) (Goes 6 ∷ Stands "abcd\nef      |" ∷ [])
    ∷ example "abcdefg\n|" (Tab ∷ []) (Goes 8 ∷ Stands "abcdefg\n        |" ∷ [])
    ∷ example "a|bcdefg\nh" (Tab ∷ []) (Goes 7 ∷ Stands "a       |bcdefg\nh" ∷ [])
    ∷ [])
    ∷ sentence "it keeps the recall text"
    (example "abc|d" (delete_left Character ∷ Tab ∷ []) (Goes 6 ∷ Stands "ab      |d" ∷ Recalls "c|" ∷ []) ∷ [])
    ∷ sentence "FULL, for the whole insertion"
    (example_in 8 "|" (Tab ∷ []) (Goes 8 ∷ Stands "        |" ∷ [])
    ∷ example_in 7 "|" (Tab ∷ []) (Refused 6 ∷ Stands "|" ∷ [])
    ∷ example_in 1 "|" (Tab ∷ []) (Refused 6 ∷ Stands "|" ∷ [])
    ∷ example_in 9 "a|b" (Tab ∷ []) (Goes 7 ∷ Stands "a       |b" ∷ [])
    ∷ example_in 8 "a|b" (Tab ∷ []) (Refused 6 ∷ Stands "a|b" ∷ [])
    ∷ example_in 8 "abcdefg|" (Tab ∷ []) (Goes 1 ∷ Stands "abcdefg |" ∷ [])
    ∷ example_in 7 "abcdefg|" (Tab ∷ []) (Refused 6 ∷ [])
    ∷ [])
    ∷ sentence "the mark follows as through any insertion"
    (example "a^bc|d" (Tab ∷ []) (Goes 5 ∷ Stands "a^bc     |d" ∷ [])
    ∷ example "abc^|d" (Tab ∷ []) (Goes 5 ∷ Stands "abc^     |d" ∷ [])
    ∷ example "abc|d^" (Tab ∷ []) (Goes 5 ∷ Stands "abc     |d^" ∷ [])
    ∷ [])
    ∷ sentence "in QUOTED a column of the quotation's own text, and the document and its mark stay"
    (example "abc|d^" (quoting "xy" Tab) (Goes 6 ∷ Stands "abc|d^" ∷ Quotation "xy      |" ∷ In Quoted ∷ [])
    ∷ example "abc|" (Quote ∷ Tab ∷ []) (Goes 8 ∷ Stands "abc|" ∷ Quotation "        |" ∷ [])
    ∷ example "abc|" (quoting "xyz" (delete_left Character) ++ (Tab ∷ [])) (Goes 6 ∷ Quotation "xy      |" ∷ ItsRecalls "z|" ∷ [])
    ∷ example_in 1 "a|" (quoting "\n" Tab) (Goes 8 ∷ Stands "a|" ∷ Quotation "\n        |" ∷ [])
    ∷ [])
    ∷ []

-- ---- What comes into the document

abbrev pub indent_pins : List (Sentence Bool)
indent_pins =
    sentence "what NEWLINE and TAB put in"
    (is_bytes (indented_line (marked "  ab|")) "\n  "
    ∷ is_bytes (indented_line (marked "ab|")) "\n"
    ∷ is_bytes (spaces_to_tab (marked "abc|")) "     "
    ∷ is_bytes (spaces_to_tab (marked "abcdefgh|")) "        "
    ∷ [])
    ∷ sentence "the document changes by what goes in; by nothing while the quotation is edited"
    (changes "  ab|c" [] Newline 0 0 "\n  |"
    ∷ changes "ab|c" [] Newline 0 0 "\n|"
    ∷ changes "ab|c" [] Tab 0 0 "      |"
    ∷ changes "  ab|c" (quoting " x" (Insert 121)) Newline 0 0 "|"
    ∷ changes "ab|c" (quoting " x" (Insert 121)) Tab 0 0 "|"
    ∷ [])
    ∷ []

-- ---- The formula of 001

-- 001, Appendix 2: margin = col - word1, where col = min0 {n | left(move)^n d in line} and word1 = max0 {n | left(move)^n d in (word - line) and
-- n < col}; min0 and max0 of no numbers are 0. No more moves count than there is room for.
abbrev pub or_zero : Option ℕ → ℕ
or_zero (Some n) = n
or_zero None = 0

abbrev pub col : Doc → ℕ
col d = or_zero (nearest (λ n. line_beginning (times (move Left) n d)) (suc (length d.l)) 0)

-- The largest number below n that passes.
unfoldable pub max0 : (ℕ → Bool) → ℕ → ℕ
max0 test zero = 0
max0 test (suc n) = cond (test n) n (max0 test n)

abbrev pub word1 : Doc → ℕ
word1 d = max0 (λ n. let e = times (move Left) n d in word e && not (line_beginning e)) (col d)

abbrev pub margin : Doc → ℕ
margin d = col d - word1 d

-- On a line that begins with spaces the formula is what its prose says, the distance of the first word from the line's beginning; on one that
-- begins with a word it is not. NEWLINE goes by the prose. (02, M-105.)
abbrev pub margin_pins : List (Sentence Bool)
margin_pins =
    sentence "001's formula where it agrees with its prose"
    (eqb (margin (marked "  foo|")) 2
    ∷ eqb (indent (bytes "  foo")) 2
    ∷ eqb (margin (marked "x\n   foo bar|")) 3
    ∷ eqb (indent (bytes "x\n   foo bar")) 3
    ∷ eqb (margin (marked "|")) 0
    ∷ eqb (margin (marked "   |")) 3
    ∷ eqb (indent (bytes "   ")) 3
    ∷ [])
    ∷ sentence "and where not"
    (eqb (margin (marked "foo|")) 3
    ∷ eqb (indent (bytes "foo")) 0
    ∷ eqb (margin (marked "foo bar|")) 4
    ∷ eqb (indent (bytes "foo bar")) 0
    ∷ [])
    ∷ []
