-- What document 01 and request M-101 say of opening, refusals and sessions, on records and stores of any kind.
use Prim.Native.String.{String}
use Rattle.std.specs.Prelude.{replicate, List, [], ◌∷◌, ◌++◌, Bool, false, ◌&&◌, ℕ, ◌-◌, ◌*◌, eqb, length, Option, Some, None}
use Rattle.window.specs.Words.{Key, Insert, Recall, Quote, Mark, Cut, Paste, Main, Quoted, Lengths, Session}
use Rattle.gap.specs.Rules.Sequence.{same_bytes, zeros}
use Rattle.gap.specs.Rules.Strings.{bytes}
use Rattle.gap.specs.Tables.Sentence.{Sentence, sentence}
use Rattle.gap.specs.Tables.Written.{stored, is_bytes, is_store, same_bool}
use Rattle.editor.specs.Rules.Bytes.{quarter}
use Rattle.editor.specs.Tables.SessionPins.{sizes, lengths, are_lengths}
use Rattle.window.specs.Rules.Core.{Lent, Called, opened, keyed}

-- ---- Sizes

-- Five stores of zeros, and a record without any text.
abbrev pub blank : ℕ → ℕ → ℕ → ℕ → ℕ → Lent
blank text recall held side screen =
    record { stores = record { text = zeros text; recall = zeros recall; held = zeros held; side = zeros side }; screen = zeros screen }

abbrev pub record_in : ℕ → ℕ → ℕ → ℕ → Lengths → Session
record_in r c H W n = record { lengths = n; frame = record { r = r; c = c; h = H; w = W } }

abbrev pub nothing : Lengths
nothing = lengths (sizes 0 0 0 0) (sizes 0 0 0 0) 0 0 0 Main 0 0 None

-- Opening and a key both answer this code: H and W, then the lengths of text, recall, held, side and screen.
abbrev pub both : ℕ → ℕ → ℕ → ℕ → ℕ → ℕ → ℕ → ℕ → Bool
both H W text recall held side screen code =
    eqb (opened 0 H W (blank text recall held side screen)).answer.code code
    && eqb (keyed (record_in 0 0 H W nothing) Quote (blank text recall held side screen)).answer.code code

abbrev pub size_pins : List (Sentence Bool)
size_pins =
    sentence "text 1 byte at least; recall and held the same; side 4,096, and no longer 1,024 (M-109); screen H times W"
    (both 2 3 4 4 4 4096 6 0
    ∷ both 2 3 1 1 1 4096 6 0
    ∷ both 2 3 0 0 0 4096 6 1
    ∷ both 2 3 4 3 4 4096 6 1
    ∷ both 2 3 4 5 4 4096 6 1
    ∷ both 2 3 4 4 3 4096 6 1
    ∷ both 2 3 4 4 5 4096 6 1
    ∷ both 2 3 4 4 0 4096 6 1
    ∷ both 2 3 4 4 4 4095 6 1
    ∷ both 2 3 4 4 4 4097 6 1
    ∷ both 2 3 4 4 4 1024 6 1
    ∷ both 2 3 4 4 4 4096 5 1
    ∷ both 2 3 4 4 4 4096 7 1
    ∷ [])
    ∷ sentence "H is 1 to 64, W is 1 to 256"
    (both 0 3 4 4 4 4096 0 1
    ∷ both 64 1 4 4 4 4096 64 0
    ∷ both 65 1 4 4 4 4096 65 1
    ∷ both 3 0 4 4 4 4096 0 1
    ∷ both 1 256 4 4 4 4096 256 0
    ∷ both 1 257 4 4 4 4096 257 1
    ∷ [])
    ∷ []

-- ---- Opening

-- The text store as written, in stores of its length and a screen of 2 rows and 3 columns, all of them full of `x` (120).
abbrev pub used : List ℕ → Lent
used text =
    record {
      stores =
          record { text = text; recall = replicate (length text) 120; held = replicate (length text) 120; side = replicate (4 * quarter) 120 };
      screen = replicate 6 120;
    }

abbrev pub answers : ℕ → ℕ → Called → Bool
answers code place o = eqb o.answer.code code && eqb o.answer.place place

abbrev pub opened_used : Called
opened_used = opened 4 2 3 (used (bytes "ab\ncxyz"))

abbrev pub opening_pins : List (Sentence Bool)
opening_pins =
    sentence "LONG: n exceeds T; place is 0"
    (answers 0 0 (opened 3 2 3 (used (bytes "abc"))) ∷ answers 2 0 (opened 4 2 3 (used (bytes "abc"))) ∷ [])
    ∷ sentence "TEXT: one of the first n bytes is not allowed; place is the first such index"
    (answers 3 0 (opened 3 2 3 (used (9 ∷ 97 ∷ 9 ∷ [])))
    ∷ answers 3 1 (opened 3 2 3 (used (97 ∷ 127 ∷ 0 ∷ [])))
    ∷ answers 3 2 (opened 3 2 3 (used (97 ∷ 10 ∷ 31 ∷ [])))
    ∷ answers 0 0 (opened 2 2 3 (used (97 ∷ 10 ∷ 31 ∷ [])))
    ∷ [])
    ∷ sentence "opening checks SIZE, LONG, TEXT; the first that applies is given"
    (answers 1 0 (opened 4 0 3 (used (9 ∷ []))) ∷ answers 2 0 (opened 4 2 3 (used (9 ∷ []))) ∷ answers 1 0 (opened 1 0 3 (used (9 ∷ []))) ∷ [])
    ∷ sentence "opening takes the first n bytes, puts the cursor at the beginning and empties everything else; it gives no mark"
    (is_store opened_used.lent.stores.text "___ab\nc"
    ∷ is_store opened_used.lent.stores.recall "_______"
    ∷ is_store opened_used.lent.stores.held "_______"
    ∷ same_bytes opened_used.lent.stores.side (zeros (4 * quarter))
    ∷ are_lengths opened_used.session.lengths (lengths (sizes 0 4 0 0) (sizes 0 0 0 0) 0 0 0 Main 0 0 None)
    ∷ [])
    ∷ sentence "it sets r = c = 0, paints the screen and names rows 1 to H"
    (same_bytes (opened_used.session.frame.r ∷ opened_used.session.frame.c ∷ opened_used.session.frame.h ∷ opened_used.session.frame.w ∷ [])
    (0 ∷ 0 ∷ 2 ∷ 3 ∷ [])
    ∷ is_bytes opened_used.lent.screen "ab c  "
    ∷ answers 0 0 opened_used
    ∷ same_bytes (opened_used.answer.report.steps ∷ opened_used.answer.report.lines ∷ []) (0 ∷ 0 ∷ [])
    ∷ same_bytes (opened_used.answer.first ∷ opened_used.answer.last ∷ opened_used.answer.row ∷ opened_used.answer.column ∷ []) (1 ∷ 2 ∷ 1 ∷ 0 ∷ [])
    ∷ same_bool opened_used.answer.report.bell false
    ∷ eqb (opened 1 2 3 (record { stores = (used (bytes "a")).stores; screen = bytes "a     " })).answer.last 2
    ∷ [])
    ∷ []

-- ---- A key

-- `ab|c` in the second of three lines, seen through 2 rows and 3 columns with offsets r and c; any screen may be lent.
abbrev pub lines_text : List ℕ
lines_text = stored "x\nab__c\ny"

abbrev pub lines_in : ℕ → ℕ → Session
lines_in r c = record_in r c 2 3 (lengths (sizes 4 3 0 0) (sizes 0 0 0 0) 0 0 0 Main 0 0 None)

abbrev pub lines_holding : List ℕ → List ℕ → Lent
lines_holding held screen = record { stores = record { text = lines_text; recall = zeros 9; held = held; side = zeros (4 * quarter) }; screen = screen }

abbrev pub lines_lent : List ℕ → Lent
lines_lent screen = lines_holding (zeros 9) screen

-- A key that changes nothing of the text: where the cursor is visible it is accepted.
abbrev pub sees : ℕ → ℕ → ℕ → Bool
sees r c code = answers code 0 (keyed (lines_in r c) Recall (lines_lent (zeros 6)))

abbrev pub names_rows : String → ℕ → ℕ → Bool
names_rows screen first last =
    let o = keyed (lines_in 0 0) Recall (lines_lent (bytes screen)) in
    (eqb o.answer.first first && eqb o.answer.last last) && is_bytes o.lent.screen "x  abc"

-- A quotation of so many letters in QUOTED, with a recall text of as many.
abbrev pub quoted_in : ℕ → Session
quoted_in n = record_in 0 0 2 1 (lengths (sizes 0 0 0 0) (sizes 0 n 0 0) 0 0 0 Quoted 0 0 (Some 0))

abbrev pub quoted_lent : ℕ → Lent
quoted_lent n =
    record {
      stores = record { text = zeros 1; recall = zeros 1; held = zeros 1; side = zeros (quarter - n) ++ (replicate n 97 ++ zeros (3 * quarter)) };
      screen = zeros 2;
    }

abbrev pub quotes : ℕ → Key → ℕ → Bool
quotes n k code = answers code 0 (keyed (quoted_in n) k (quoted_lent n))

-- The same text with a held pair of so many bytes and a mark: RECALL changes nothing of it where it is accepted.
abbrev pub holds : String → ℕ → ℕ → Option ℕ → ℕ → Bool
holds held hl hr mark code =
    answers code 0
    (keyed (record_in 0 0 2 3 (lengths (sizes 4 3 0 0) (sizes 0 0 0 0) 0 0 0 Main hl hr mark)) Recall (lines_holding (stored held) (zeros 6)))

abbrev pub call_pins : List (Sentence Bool)
call_pins =
    sentence "the cursor is visible exactly when r < row <= r + H and c <= column <= c + W; else SESSION"
    (sees 0 0 0
    ∷ sees 1 0 0
    ∷ sees 2 0 4
    ∷ sees 0 1 0
    ∷ sees 0 2 0
    ∷ sees 0 3 4
    ∷ answers 4 0 (keyed (record_in 0 0 1 6 (lines_in 0 0).lengths) Recall (lines_lent (zeros 6)))
    ∷ answers 0 0 (keyed (record_in 0 0 3 2 (lines_in 0 0).lengths) Recall (lines_lent (zeros 6)))
    ∷ answers 4 0 (keyed (record_in 0 0 6 1 (lines_in 0 0).lengths) Recall (lines_lent (zeros 6)))
    ∷ [])
    ∷ sentence "a key checks SIZE, SESSION, KEY, FULL; the first that applies is given"
    (answers 1 0 (keyed (lines_in 2 0) (Insert 9) (lines_lent (zeros 5)))
    ∷ answers 4 0 (keyed (lines_in 2 0) (Insert 9) (lines_lent (zeros 6)))
    ∷ answers 5 0 (keyed (lines_in 0 0) (Insert 9) (lines_lent (zeros 6)))
    ∷ [])
    ∷ sentence "SESSION: each part of the record and of the stores is looked at"
    (answers 4 0 (keyed (record_in 0 0 2 3 (lengths (sizes 4 3 0 0) (sizes 0 0 0 0) 0 0 1 Main 0 0 None)) Recall (lines_lent (zeros 6)))
    ∷ answers 4 0 (keyed (record_in 0 0 2 3 (lengths (sizes 4 2 0 0) (sizes 0 0 0 0) 0 0 0 Main 0 0 None)) Recall (lines_lent (zeros 6)))
    ∷ [])
    ∷ sentence "a session needs the mark within the document, its end included, and the held pair under the recall pair's rule; else SESSION"
    (holds "_________" 0 0 (Some 0) 0
    ∷ holds "_________" 0 0 (Some 7) 0
    ∷ holds "_________" 0 0 (Some 8) 4
    ∷ holds "ab_______" 2 0 None 0
    ∷ holds "ab_______" 0 2 (Some 3) 0
    ∷ holds "ab_______" 1 1 None 4
    ∷ holds "ab_______" 1 0 None 4
    ∷ holds "abcdefghi" 10 0 None 4
    ∷ holds "a\t_______" 2 0 None 4
    ∷ [])
    ∷ sentence "the named rows are those at which the lent screen differed, whatever it showed"
    (names_rows "x  abc" 0 0 ∷ names_rows "x. abc" 1 1 ∷ names_rows "x  .bc" 2 2 ∷ names_rows "x ..bc" 1 2 ∷ [])
    ∷ sentence "FULL: the quotation would exceed 1,024 (M-109)"
    (quotes 1023 (Insert 98) 0 ∷ quotes 1024 (Insert 98) 6 ∷ quotes 1024 (Insert 9) 5 ∷ [])
    ∷ sentence "KEY for MARK, CUT and PASTE in QUOTED" (quotes 0 Mark 5 ∷ quotes 0 Cut 5 ∷ quotes 0 Paste 5 ∷ [])
    ∷ []
