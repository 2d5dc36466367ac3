-- The numbers of the host's boundary by example: which numbers name which key, and what calls in numbers answer and hand back.
-- proofs/Theorems/HostNumbers shows that the definitions give each of them.
use Rattle.std.specs.Prelude.{List, [], ◌∷◌, ◌++◌, map, cond, ℕ, ◌-◌, ◌*◌, eqb, length}
use Prim.Native.String.{String}
use Rattle.window.specs.Words.{Left, Right, Move, Delete, Character, Word, LineBeginning, LineEnding, Document}
use Rattle.window.specs.Words.{Key, Insert, Function, Recall, Quote, Find, Replace, Mark, Cut, Paste, Newline, Tab}
use Rattle.gap.specs.Rules.Sequence.{zeros}
use Rattle.gap.specs.Rules.Strings.{bytes}
use Rattle.editor.specs.Rules.Bytes.{quarter}
use Rattle.window.specs.declared.host.Record.{Record}
use Rattle.window.specs.declared.host.Said.{Said}
use Rattle.window.specs.declared.host.HostReply.{HostReply}
use Rattle.window.specs.Rules.Core.{Lent}
use Rattle.window.specs.Rules.Host.{KeyNumbers, numbers, Given, host_opened, host_pressed}

-- ---- Keys

-- Numbers and the key that they name.
pub record KeyRow : Type 0 where
  pub numbers : KeyNumbers
  pub key : Key

abbrev pub named : ℕ → ℕ → ℕ → ℕ → Key → KeyRow
named kind a b c key = record { numbers = numbers kind a b c; key = key }

-- 99 stands where a number is not looked at.
abbrev pub key_rows : List KeyRow
key_rows =
    named 0 0 99 99 (Insert 0)
    ∷ named 0 65 99 99 (Insert 65)
    ∷ named 0 255 99 99 (Insert 255)
    ∷ named 1 0 0 0 (Function Move Left Character)
    ∷ named 1 0 0 1 (Function Move Left Word)
    ∷ named 1 0 0 2 (Function Move Left LineBeginning)
    ∷ named 1 0 0 3 (Function Move Left LineEnding)
    ∷ named 1 0 0 4 (Function Move Left Document)
    ∷ named 1 0 1 0 (Function Move Right Character)
    ∷ named 1 0 1 1 (Function Move Right Word)
    ∷ named 1 0 1 2 (Function Move Right LineBeginning)
    ∷ named 1 0 1 3 (Function Move Right LineEnding)
    ∷ named 1 0 1 4 (Function Move Right Document)
    ∷ named 1 1 0 0 (Function Delete Left Character)
    ∷ named 1 1 0 1 (Function Delete Left Word)
    ∷ named 1 1 0 2 (Function Delete Left LineBeginning)
    ∷ named 1 1 0 3 (Function Delete Left LineEnding)
    ∷ named 1 1 0 4 (Function Delete Left Document)
    ∷ named 1 1 1 0 (Function Delete Right Character)
    ∷ named 1 1 1 1 (Function Delete Right Word)
    ∷ named 1 1 1 2 (Function Delete Right LineBeginning)
    ∷ named 1 1 1 3 (Function Delete Right LineEnding)
    ∷ named 1 1 1 4 (Function Delete Right Document)
    ∷ named 2 99 99 99 Recall
    ∷ named 3 99 99 99 Quote
    ∷ named 4 0 99 99 (Find Left)
    ∷ named 4 1 99 99 (Find Right)
    ∷ named 5 99 99 99 Replace
    ∷ named 6 99 99 99 Mark
    ∷ named 7 99 99 99 Cut
    ∷ named 8 99 99 99 Paste
    ∷ named 9 99 99 99 Newline
    ∷ named 10 99 99 99 Tab
    ∷ []

-- One more than the largest of the kinds.
abbrev pub no_kind : KeyNumbers
no_kind = numbers 11 0 0 0

-- Numbers that name no key: one more than the largest of each kind, and of the kinds.
abbrev pub no_keys : List KeyNumbers
no_keys = numbers 0 256 0 0 ∷ numbers 1 2 0 0 ∷ numbers 1 0 2 0 ∷ numbers 1 0 0 5 ∷ numbers 4 2 0 0 ∷ no_kind ∷ []

-- ---- Calls

-- The answer's nine numbers and the record's nineteen, in the order in which hosts have them.
abbrev pub said : ℕ → ℕ → ℕ → ℕ → ℕ → ℕ → ℕ → ℕ → ℕ → Said
said code place steps lines bell first last row column =
    record { code = code; place = place; steps = steps; lines = lines; bell = bell; first = first; last = last; row = row; column = column }

abbrev pub back : ℕ → ℕ → ℕ → ℕ → ℕ → ℕ → ℕ → ℕ → ℕ → ℕ → ℕ → ℕ → ℕ → ℕ → ℕ → ℕ → ℕ → ℕ → ℕ → Record
back l r ql qr rl rr qrl qrr xl xr pl mode top left rows columns hl hr mark =
    record {
      l = l;
      r = r;
      ql = ql;
      qr = qr;
      rl = rl;
      rr = rr;
      qrl = qrl;
      qrr = qrr;
      xl = xl;
      xr = xr;
      pl = pl;
      mode = mode;
      top = top;
      left = left;
      rows = rows;
      columns = columns;
      hl = hl;
      hr = hr;
      mark = mark;
    }

-- The number that is no mark.
abbrev pub unmarked : ℕ
unmarked = 18446744073709551615

-- A text, in which `$` (36) is a newline and `^` (94) a byte 27, in a store of 40 bytes, and a screen of so many cells.
abbrev pub written : String → List ℕ
written s = map (λ b. cond (eqb b 36) 10 (cond (eqb b 94) 27 b)) (bytes s)

abbrev pub stores_for : List ℕ → ℕ → Lent
stores_for text cells =
    record {
      stores = record { text = text ++ zeros (40 - length text); recall = zeros 40; held = zeros 40; side = zeros (4 * quarter) };
      screen = zeros cells;
    }

-- A list of keys, each called with what the one before gave back.
unfoldable pub pressed_on : List KeyNumbers → Given → Given
pressed_on [] g = g
pressed_on (x ∷ xs) g = pressed_on xs (host_pressed g.back x g.lent)

-- A text that is opened with 5 rows and 6 columns, keys, and what the last call replies.
pub record CallRow : Type 0 where
  pub text : String
  pub keys : List KeyNumbers
  pub reply : HostReply

abbrev pub calls : String → List KeyNumbers → Said → Record → CallRow
calls text keys said back = record { text = text; keys = keys; reply = record { said = said; back = back } }

abbrev pub reply_of : Given → HostReply
reply_of g = record { said = g.said; back = g.back }

unfoldable pub last_reply : CallRow → HostReply
last_reply row = reply_of (pressed_on row.keys (host_opened (length (written row.text)) 5 6 (stores_for (written row.text) 30)))

-- QUOTE, the bytes of a quotation, and further keys.
abbrev pub quoting : String → List KeyNumbers → List KeyNumbers
quoting s after = numbers 3 0 0 0 ∷ (map (λ b. numbers 0 b 0 0) (bytes s) ++ after)

abbrev pub call_rows : List CallRow
call_rows =
    -- Opened, and refused with TEXT at byte 2.
    calls "abc" [] (said 0 0 0 0 0 1 5 1 0) (back 0 3 0 0 0 0 0 0 0 0 0 0 0 0 5 6 0 0 unmarked)
    ∷ calls "ab^" [] (said 3 2 0 0 0 0 0 0 0) (back 0 0 0 0 0 0 0 0 0 0 0 0 0 0 0 0 0 0 unmarked)
    -- An insert; a move that finds no place; numbers that name no key.
    ∷ calls "bc" (numbers 0 97 0 0 ∷ []) (said 0 0 0 0 0 1 1 1 1) (back 1 2 0 0 0 0 0 0 0 0 0 0 0 0 5 6 0 0 unmarked)
    ∷ calls "bc" (numbers 1 0 0 0 ∷ []) (said 0 0 0 0 1 0 0 1 0) (back 0 2 0 0 0 0 0 0 0 0 0 0 0 0 5 6 0 0 unmarked)
    ∷ calls "bc" (no_kind ∷ []) (said 5 0 0 0 0 0 0 0 0) (back 0 2 0 0 0 0 0 0 0 0 0 0 0 0 5 6 0 0 unmarked)
    -- Right to the line's ending, and then right to the document's end is deleted: seven bytes, four of them newlines, in rows 4 and 5. RECALL puts them back.
    ∷ calls "ab$$$ef$g" (numbers 1 0 1 3 ∷ numbers 1 1 1 4 ∷ []) (said 0 0 7 4 0 4 5 1 2) (back 2 0 0 0 0 7 0 0 0 0 0 0 0 0 5 6 0 0 unmarked)
    ∷ calls "ab$$$ef$g" (numbers 1 0 1 3 ∷ numbers 1 1 1 4 ∷ numbers 2 0 0 0 ∷ []) (said 0 0 0 0 0 4 5 1 2)
    (back 2 7 0 0 0 7 0 0 0 0 0 0 0 0 5 6 0 0 unmarked)
    -- Right to the second line's ending, and then left to its beginning is deleted.
    ∷ calls "ab$cdef" (numbers 1 0 1 3 ∷ numbers 1 0 1 3 ∷ numbers 1 1 0 2 ∷ []) (said 0 0 4 0 0 2 2 2 0)
    (back 3 0 0 0 4 0 0 0 0 0 0 0 0 0 5 6 0 0 unmarked)
    -- In a quotation a word is deleted to the left, behind eight bytes of a document of ten; the window has followed the cursor.
    ∷ calls "$$$$$$$xyz" (numbers 1 0 1 4 ∷ numbers 1 0 0 0 ∷ numbers 1 0 0 0 ∷ quoting "abcdefghij klm" (numbers 1 1 0 1 ∷ numbers 1 0 0 0 ∷ []))
    (said 0 0 1 0 0 0 0 5 2) (back 8 2 10 1 0 0 3 0 0 0 0 1 4 9 5 6 0 0 unmarked)
    -- And one to the right.
    ∷ calls "" (quoting "ab cde gh" (numbers 1 0 0 1 ∷ numbers 1 0 0 1 ∷ numbers 1 1 1 1 ∷ [])) (said 0 0 4 0 0 2 2 2 0)
    (back 0 0 3 2 0 0 0 4 0 0 0 1 0 4 5 6 0 0 unmarked)
    -- REPLACE takes the quotation, cut at its cursor; a move to the end follows.
    ∷ calls "" (quoting "aa bbbb" (numbers 1 0 0 1 ∷ numbers 5 0 0 0 ∷ numbers 1 0 1 4 ∷ [])) (said 0 0 4 0 0 0 0 1 5)
    (back 7 0 0 0 0 0 0 0 3 4 0 0 0 2 5 6 0 0 unmarked)
    -- FIND takes the quotation as its pattern and goes right, UPFIND goes back.
    ∷ calls "ab ab" (quoting "ab" (numbers 4 1 0 0 ∷ [])) (said 0 0 3 0 0 1 3 1 3) (back 3 2 0 0 0 0 0 0 0 0 2 0 0 0 5 6 0 0 unmarked)
    ∷ calls "ab ab" (quoting "ab" (numbers 4 1 0 0 ∷ numbers 4 0 0 0 ∷ [])) (said 0 0 3 0 0 0 0 1 0)
    (back 0 5 0 0 0 0 0 0 0 0 2 0 0 0 5 6 0 0 unmarked)
    -- MARK behind one byte, and from the document's end CUT takes all that is behind the mark; PASTE puts it back.
    ∷ calls "ab$cd$e" (numbers 1 0 1 0 ∷ numbers 6 0 0 0 ∷ []) (said 0 0 0 0 0 0 0 1 1) (back 1 6 0 0 0 0 0 0 0 0 0 0 0 0 5 6 0 0 1)
    ∷ calls "ab$cd$e" (numbers 1 0 1 0 ∷ numbers 6 0 0 0 ∷ numbers 1 0 1 4 ∷ numbers 7 0 0 0 ∷ []) (said 0 0 6 0 0 1 3 1 1)
    (back 1 0 0 0 0 0 0 0 0 0 0 0 0 0 5 6 6 0 unmarked)
    ∷ calls "ab$cd$e" (numbers 1 0 1 0 ∷ numbers 6 0 0 0 ∷ numbers 1 0 1 4 ∷ numbers 7 0 0 0 ∷ numbers 8 0 0 0 ∷ []) (said 0 0 0 0 0 1 3 3 1)
    (back 7 0 0 0 0 0 0 0 0 0 0 0 0 0 5 6 6 0 unmarked)
    -- With the mark behind the cursor CUT holds what it takes as a right half. Without a mark there is the bell; in QUOTED it gets KEY.
    ∷ calls "abc" (numbers 1 0 1 4 ∷ numbers 6 0 0 0 ∷ numbers 1 0 0 0 ∷ numbers 7 0 0 0 ∷ []) (said 0 0 1 0 0 1 1 1 2)
    (back 2 0 0 0 0 0 0 0 0 0 0 0 0 0 5 6 0 1 unmarked)
    ∷ calls "abc" (numbers 7 0 0 0 ∷ []) (said 0 0 0 0 1 0 0 1 0) (back 0 3 0 0 0 0 0 0 0 0 0 0 0 0 5 6 0 0 unmarked)
    ∷ calls "abc" (numbers 6 0 0 0 ∷ numbers 3 0 0 0 ∷ numbers 7 0 0 0 ∷ []) (said 5 0 0 0 0 0 0 0 0)
    (back 0 3 0 0 0 0 0 0 0 0 0 1 0 0 5 6 0 0 0)
    ∷ []

-- ---- Records that are no session

-- A record with a screen of so many cells, and the number with which a key is refused. The record comes back number for number.
pub record RefusedRow : Type 0 where
  pub handed : Record
  pub cells : ℕ
  pub code : ℕ

abbrev pub refuses : Record → ℕ → ℕ → RefusedRow
refuses handed cells code = record { handed = handed; cells = cells; code = code }

-- The key has numbers that name none: SIZE and SESSION come before KEY.
unfoldable pub refused_reply : RefusedRow → HostReply
refused_reply row = reply_of (host_pressed row.handed no_kind (stores_for [] row.cells))

abbrev pub refused_rows : List RefusedRow
refused_rows =
    -- A mode that is none: SESSION, and before it SIZE. There may be 100 columns, and no 100 rows.
    refuses (back 10 11 12 13 14 15 16 17 18 19 20 2 21 22 5 6 23 24 25) 30 4
    ∷ refuses (back 10 11 12 13 14 15 16 17 18 19 20 2 21 22 5 7 23 24 25) 30 1
    ∷ refuses (back 10 11 12 13 14 15 16 17 18 19 20 2 21 22 1 100 23 24 25) 100 4
    ∷ refuses (back 10 11 12 13 14 15 16 17 18 19 20 2 21 22 100 1 23 24 25) 100 1
    -- A mode that is one, recall texts and a held text with two halves: the same.
    ∷ refuses (back 10 11 12 13 14 15 16 17 18 19 20 0 21 22 5 6 23 24 25) 30 4
    ∷ refuses (back 10 11 12 13 14 15 16 17 18 19 20 1 21 22 5 6 23 24 25) 30 4
    ∷ refuses (back 10 11 12 13 14 15 16 17 18 19 20 1 21 22 5 7 23 24 25) 30 1
    ∷ refuses (back 10 11 12 13 14 15 16 17 18 19 20 1 21 22 1 100 23 24 25) 100 4
    ∷ refuses (back 10 11 12 13 14 15 16 17 18 19 20 1 21 22 100 1 23 24 25) 100 1
    -- An empty document: no mark and a mark at 0 are a session's, and then numbers that name no key get KEY. Any other mark is SESSION, and so is a held pair
    -- with two halves.
    ∷ refuses (back 0 0 0 0 0 0 0 0 0 0 0 0 0 0 5 6 0 0 unmarked) 30 5
    ∷ refuses (back 0 0 0 0 0 0 0 0 0 0 0 0 0 0 5 6 0 0 0) 30 5
    ∷ refuses (back 0 0 0 0 0 0 0 0 0 0 0 0 0 0 5 6 0 0 1) 30 4
    ∷ refuses (back 0 0 0 0 0 0 0 0 0 0 0 0 0 0 5 6 0 0 18446744073709551614) 30 4
    ∷ refuses (back 0 0 0 0 0 0 0 0 0 0 0 0 0 0 5 6 1 1 unmarked) 30 4
    ∷ []
