-- The host's boundary: record, key and answer as numbers. (DECISIONS D1 to D4.)
use Rattle.std.specs.Prelude.{Bool, true, ◌&&◌, ◌||◌, cond, ℕ, eqb, leb, Option, Some, None}
use Rattle.window.specs.Words.{Left, Right, Direction, Action, Move, Delete, Mode, Main, Quoted}
use Rattle.window.specs.Words.{Place, Character, Word, LineBeginning, LineEnding, Document}
use Rattle.window.specs.Words.{Session, Key, Insert, Function, Recall, Quote, Find, Replace, Mark, Cut, Paste, Newline, Tab}
use Rattle.editor.specs.Rules.Refusals.{SIZE, SESSION}
use Rattle.editor.specs.Rules.Plain.{Plain}
use Rattle.editor.specs.Rules.Bytes.{Stores}
use Rattle.gap.specs.Rules.Numbers.{bit}
use Rattle.window.specs.declared.host.Record.{Record}
use Rattle.window.specs.declared.host.Said.{Said}
use Rattle.window.specs.declared.host.HostReply.{HostReply}
use Rattle.window.specs.Rules.Core.{Lent, Answer, Reply, Called, refusal, tabled, is_session, held, opened, keyed}

-- ---- The record

-- A mode is 0 or 1.
abbrev pub mode_of : ℕ → Mode
mode_of m = cond (eqb m 1) Quoted Main

abbrev pub mode_number : Mode → ℕ
mode_number Main = 0
mode_number Quoted = 1

-- No mark is the largest size, 2^64 - 1; any other number is a position. One beyond the document is then no session. (02, M-101: the mark in the
-- record.)
unfoldable pub no_mark : ℕ
no_mark = 18446744073709551615

abbrev pub mark_from : ℕ → Option ℕ
mark_from m = cond (eqb m no_mark) None (Some m)

abbrev pub mark_number : Option ℕ → ℕ
mark_number None = no_mark
mark_number (Some m) = m

-- The record as the core has it, and back.
abbrev pub session_from : Record → Session
session_from n =
    record {
      lengths =
          record {
            main = record { l = n.l; r = n.r; rl = n.rl; rr = n.rr };
            quoted = record { l = n.ql; r = n.qr; rl = n.qrl; rr = n.qrr };
            xl = n.xl;
            xr = n.xr;
            pl = n.pl;
            mode = mode_of n.mode;
            hl = n.hl;
            hr = n.hr;
            mark = mark_from n.mark;
          };
      frame = record { r = n.top; c = n.left; h = n.rows; w = n.columns };
    }

abbrev pub record_from : Session → Record
record_from s =
    record {
      l = s.lengths.main.l;
      r = s.lengths.main.r;
      ql = s.lengths.quoted.l;
      qr = s.lengths.quoted.r;
      rl = s.lengths.main.rl;
      rr = s.lengths.main.rr;
      qrl = s.lengths.quoted.rl;
      qrr = s.lengths.quoted.rr;
      xl = s.lengths.xl;
      xr = s.lengths.xr;
      pl = s.lengths.pl;
      mode = mode_number s.lengths.mode;
      top = s.frame.r;
      left = s.frame.c;
      rows = s.frame.h;
      columns = s.frame.w;
      hl = s.lengths.hl;
      hr = s.lengths.hr;
      mark = mark_number s.lengths.mark;
    }

-- Record and stores are a session: the mode is one, and the core's record is a session. What they hold is what it holds.
abbrev pub is_host_session : Record → Stores → Bool
is_host_session n b = leb n.mode 1 && is_session (session_from n) b

abbrev pub host_held : Record → Stores → Plain
host_held n b = held (session_from n) b

-- ---- Keys

-- A key is a kind and up to three numbers. What is no key becomes an insert of byte 0, which is refused with KEY in its order.
abbrev pub none : Key
none = Insert 0

abbrev pub insert_from : ℕ → Key
insert_from b = cond (leb b 255) (Insert b) none

abbrev pub direction_from : ℕ → Direction
direction_from d = cond (eqb d 1) Right Left

abbrev pub action_from : ℕ → Action
action_from a = cond (eqb a 1) Delete Move

abbrev pub place_from : ℕ → Place
place_from p =
    cond (eqb p 1) Word (cond (eqb p 2) LineBeginning (cond (eqb p 3) LineEnding (cond (eqb p 4) Document Character)))

abbrev pub function_from : ℕ → ℕ → ℕ → Key
function_from a d p =
    cond (leb a 1 && (leb d 1 && leb p 4)) (Function (action_from a) (direction_from d) (place_from p)) none

abbrev pub find_from : ℕ → Key
find_from d = cond (leb d 1) (Find (direction_from d)) none

unfoldable pub key_from : ℕ → ℕ → ℕ → ℕ → Key
key_from kind a b c =
    cond (eqb kind 0) (insert_from a)
    (cond (eqb kind 1) (function_from a b c)
    (cond (eqb kind 2) Recall
    (cond (eqb kind 3) Quote
    (cond (eqb kind 4) (find_from a)
    (cond (eqb kind 5) Replace
    (cond (eqb kind 6) Mark
    (cond (eqb kind 7) Cut
    (cond (eqb kind 8) Paste
    (cond (eqb kind 9) Newline
    (cond (eqb kind 10) Tab none))))))))))

-- The four numbers as one value.
pub record KeyNumbers : Type 0 where
  pub kind : ℕ
  pub a : ℕ
  pub b : ℕ
  pub c : ℕ

abbrev pub numbers : ℕ → ℕ → ℕ → ℕ → KeyNumbers
numbers kind a b c = record { kind = kind; a = a; b = b; c = c }

abbrev pub key_of : KeyNumbers → Key
key_of x = key_from x.kind x.a x.b x.c

-- Which numbers name a key: an insert's byte is at most 255; a function key's numbers are at most 1, 1 and 4; a search's is at most 1;
-- and there is no kind above 10.
abbrev pub names : KeyNumbers → Bool
names x =
    cond (eqb x.kind 0) (leb x.a 255)
    (cond (eqb x.kind 1) (leb x.a 1 && (leb x.b 1 && leb x.c 4))
    (cond (eqb x.kind 4) (leb x.a 1) (leb x.kind 10)))

-- Those that are looked at: all of a function key's, the first of an insert's and of a search's, else the kind alone.
abbrev pub looked_at : KeyNumbers → KeyNumbers
looked_at x =
    cond (eqb x.kind 1) x
    (cond (eqb x.kind 0 || eqb x.kind 4) (numbers x.kind x.a 0 0) (numbers x.kind 0 0 0))

-- The numbers of a key, with 0 where none is looked at.
abbrev pub action_number : Action → ℕ
action_number Move = 0
action_number Delete = 1

abbrev pub direction_number : Direction → ℕ
direction_number Left = 0
direction_number Right = 1

abbrev pub place_number : Place → ℕ
place_number Character = 0
place_number Word = 1
place_number LineBeginning = 2
place_number LineEnding = 3
place_number Document = 4

abbrev pub numbers_of_key : Key → KeyNumbers
numbers_of_key (Insert b) = numbers 0 b 0 0
numbers_of_key (Function action way place) = numbers 1 (action_number action) (direction_number way) (place_number place)
numbers_of_key Recall = numbers 2 0 0 0
numbers_of_key Quote = numbers 3 0 0 0
numbers_of_key (Find way) = numbers 4 (direction_number way) 0 0
numbers_of_key Replace = numbers 5 0 0 0
numbers_of_key Mark = numbers 6 0 0 0
numbers_of_key Cut = numbers 7 0 0 0
numbers_of_key Paste = numbers 8 0 0 0
numbers_of_key Newline = numbers 9 0 0 0
numbers_of_key Tab = numbers 10 0 0 0

-- A key that can be pressed: an insert is of a byte.
abbrev pub of_byte : Key → Bool
of_byte (Insert b) = leb b 255
of_byte (Function action way place) = true
of_byte Recall = true
of_byte Quote = true
of_byte (Find way) = true
of_byte Replace = true
of_byte Mark = true
of_byte Cut = true
of_byte Paste = true
of_byte Newline = true
of_byte Tab = true

-- ---- The answer

-- The answer in numbers, and as it is read from them.
abbrev pub said_of : Answer → Said
said_of a =
    record {
      code = a.code;
      place = a.place;
      steps = a.report.steps;
      lines = a.report.lines;
      bell = bit a.report.bell;
      first = a.first;
      last = a.last;
      row = a.row;
      column = a.column;
    }

abbrev pub answer_from : Said → Answer
answer_from said =
    record {
      code = said.code;
      place = said.place;
      report = record { steps = said.steps; lines = said.lines; bell = eqb said.bell 1 };
      first = said.first;
      last = said.last;
      row = said.row;
      column = said.column;
    }

-- ---- The calls

-- What the host is given: the answer, the record and the stores.
pub record Given : Type 0 where
  pub said : Said
  pub back : Record
  pub lent : Lent

abbrev pub given : HostReply → Lent → Given
given r b = record { said = r.said; back = r.back; lent = b }

-- A reply of the core in numbers.
abbrev pub numbers_of : Reply → HostReply
numbers_of r = record { said = said_of r.answer; back = record_from r.session }

abbrev pub given_of : Called → Given
given_of o = record { said = said_of o.answer; back = record_from o.session; lent = o.lent }

unfoldable pub host_opened : ℕ → ℕ → ℕ → Lent → Given
host_opened n H W b = given_of (opened n H W b)

-- A refused opening: a record of zeros with no mark, and the stores as they were. (DECISIONS C15.)
abbrev pub zero_numbers : Record
zero_numbers =
    record {
      l = 0;
      r = 0;
      ql = 0;
      qr = 0;
      rl = 0;
      rr = 0;
      qrl = 0;
      qrr = 0;
      xl = 0;
      xr = 0;
      pl = 0;
      mode = 0;
      top = 0;
      left = 0;
      rows = 0;
      columns = 0;
      hl = 0;
      hr = 0;
      mark = no_mark;
    }

abbrev pub host_unopened : Lent → ℕ → ℕ → Given
host_unopened b code place = record { said = said_of (refusal code place); back = zero_numbers; lent = b }

-- A refused key: record and stores as they were, number for number.
abbrev pub host_turned_down : Record → Lent → ℕ → Given
host_turned_down n b code = record { said = said_of (refusal code 0); back = n; lent = b }

-- A mode that is none makes the record no session: SESSION in its order.
abbrev pub no_mode : Record → Lent → Given
no_mode n b = host_turned_down n b (cond (tabled n.rows n.columns b) SESSION SIZE)

unfoldable pub host_keyed : Record → ℕ → ℕ → ℕ → ℕ → Lent → Given
host_keyed n kind a b c lent =
    cond (leb n.mode 1) (given_of (keyed (session_from n) (key_from kind a b c) lent)) (no_mode n lent)

abbrev pub host_pressed : Record → KeyNumbers → Lent → Given
host_pressed n x b = host_keyed n x.kind x.a x.b x.c b
