-- The core: opening and the key call as total functions on any record and any five stores.
use Rattle.std.specs.Prelude.{List, [], ◌∷◌, Bool, not, ◌&&◌, ℕ, ◌-◌, ◌*◌, eqb, leb, length, take, get_or, Option, Some, None}
use Rattle.gap.specs.Rules.Checks.{check, unless}
use Rattle.window.specs.Words.{Key, Report, Frame, Session}
use Rattle.gap.specs.Rules.Doc.{Doc}
use Rattle.gap.specs.Rules.Nearest.{nearest}
use Rattle.gap.specs.Rules.Layout.{allowed}
use Rattle.gap.specs.Rules.LineLimits.{long_line}
use Rattle.editor.specs.Rules.Refusals.{SIZE, LONG, TEXT, SESSION, LINE}
use Rattle.editor.specs.Rules.Plain.{Plain, opening, quiet, Did, Outcome, refused, done}
use Rattle.editor.specs.Rules.LongLines.{longest_line}
use Rattle.editor.specs.Rules.Keys.{key}
use Rattle.editor.specs.Rules.Bytes.{Stores, quarter, sized, plain_of, lengths_of, stores_of, editor_ok, opening_lengths}
use Rattle.window.specs.Rules.Window.{virtual, row_of, column_of, window, visible, policy}
use Rattle.window.specs.Rules.Rows.{first_row, last_row}

-- ---- What goes in and comes out

-- The five lent stores: the editor's four, and the screen. (01, table of stores. 02, M-101: the fifth.)
pub record Lent : Type 0 where
  pub stores : Stores
  pub screen : List ℕ

-- What a call answers: 0 or a refusal's number, the place of TEXT and LINE, the report, the named rows, and where on the screen the cursor is.
-- (01, the answer.)
pub record Answer : Type 0 where
  pub code : ℕ
  pub place : ℕ
  pub report : Report
  pub first : ℕ
  pub last : ℕ
  pub row : ℕ
  pub column : ℕ

-- The answer with the record handed back.
pub record Reply : Type 0 where
  pub answer : Answer
  pub session : Session

-- All that a call determines: the answer, the record handed back, and the bytes of the five stores.
pub record Called : Type 0 where
  pub answer : Answer
  pub session : Session
  pub lent : Lent

-- T is the length of the text store.
abbrev pub T : Stores → ℕ
T b = length b.text

-- ---- Sizes and sessions

-- 01, table of stores: H, W and the length of the screen; the other four stores are the editor's to judge.
abbrev pub rows_and_columns : ℕ → ℕ → Bool
rows_and_columns H W = (leb 1 H && leb H 64) && (leb 1 W && leb W 256)

unfoldable pub tabled : ℕ → ℕ → Lent → Bool
tabled H W b = sized quarter b.stores && (rows_and_columns H W && eqb (length b.screen) (H * W))

-- The plain state that record and stores hold.
abbrev pub held : Session → Stores → Plain
held s b = plain_of quarter s.lengths b

-- Record and stores are a session in quarters of Q bytes; what the screen shows does not matter. (01, session. DECISIONS B17.)
abbrev pub session_in : ℕ → Session → Stores → Bool
session_in Q s b = editor_ok Q s.lengths b && visible s.frame (virtual (plain_of Q s.lengths b))

unfoldable pub is_session : Session → Stores → Bool
is_session s b = session_in quarter s b

-- ---- Answers

-- A refusal says its number and, for TEXT and opening's LINE, the place; everything else is 0. (01, refusals: what a refusal leaves. 02, M-106: place.)
abbrev pub refusal : ℕ → ℕ → Answer
refusal code place =
    record { code = code; place = place; report = quiet; first = 0; last = 0; row = 0; column = 0 }

-- An accepted call says its report, the named rows, and where on the screen the cursor is. (01, the window: cursor.)
abbrev pub accepted : Report → ℕ → ℕ → Frame → Doc → Answer
accepted report first last f d =
    record {
      code = 0;
      place = 0;
      report = report;
      first = first;
      last = last;
      row = row_of d - f.r;
      column = column_of d - f.c;
    }

-- A plain state seen through a window, as record and as stores of T bytes.
abbrev pub session_of : Plain → Frame → Session
session_of p f = record { lengths = lengths_of p; frame = f }

abbrev pub lent_of : ℕ → Plain → Frame → Lent
lent_of T p f = record { stores = stores_of T quarter p; screen = window f (virtual p) }

-- ---- Opening

-- Refused, it gives a record of zeros with no mark, and the stores as they were. (01, refusals: refused opening. DECISIONS B25, C15.)
abbrev pub zero_record : Session
zero_record = record { lengths = opening_lengths 0; frame = record { r = 0; c = 0; h = 0; w = 0 } }

abbrev pub unopened : Lent → ℕ → ℕ → Called
unopened b code place = record { answer = refusal code place; session = zero_record; lent = b }

-- Accepted, the first n bytes of the text store are the document, seen from its beginning; every row is named, whatever the lent
-- screen showed. (01, opening. DECISIONS B23, B27.)
abbrev pub start : ℕ → ℕ → Frame
start H W = record { r = 0; c = 0; h = H; w = W }

unfoldable pub opened_text : ℕ → ℕ → ℕ → Lent → Called
opened_text n H W b =
    let p = opening (take n b.stores.text) in
    record {
      answer = accepted quiet 1 H (start H W) (virtual p);
      session = session_of p (start H W);
      lent = lent_of (T b.stores) p (start H W);
    }

-- The first of n bytes that is not allowed, from 0. (01, refusals: TEXT.)
abbrev pub bad_byte : ℕ → List ℕ → Option ℕ
bad_byte n text = nearest (λ i. not (allowed (get_or text i 0))) n 0

-- Where the first of its lines begins that the reader does not take. (02, M-106: place.)
abbrev pub bad_line : ℕ → List ℕ → Option ℕ
bad_line n text = long_line longest_line (take n text)

-- Opening is refused with a number at the place that was found.
abbrev pub unless_at : ℕ → Option ℕ → Lent → Called → Called
unless_at code (Some i) b o = unopened b code i
unless_at code None b o = o

-- SIZE, then LONG, then TEXT, then LINE; n is the stated length of the text. (01, refusals: order. 02, M-106: at opening after TEXT.)
unfoldable pub opened : ℕ → ℕ → ℕ → Lent → Called
opened n H W b =
    unless (check SIZE (tabled H W b) ∷ check LONG (leb n (T b.stores)) ∷ []) (λ code. unopened b code 0)
    (unless_at TEXT (bad_byte n b.stores.text) b (unless_at LINE (bad_line n b.stores.text) b (opened_text n H W b)))

-- ---- A key

-- Refused, it gives record and stores back as they were. (01, refusals: refused key.)
abbrev pub turned_down : Session → Lent → ℕ → Called
turned_down s b code = record { answer = refusal code 0; session = s; lent = b }

-- Done, the policy gives the offsets, the screen becomes the window, and the rows in which the lent screen differs from it are named.
-- (01, the window: policy, named rows.)
unfoldable pub shown : Frame → Lent → Did Plain → Called
shown f b did =
    let d = virtual did.state in
    let g = policy f d in
    let screen = window g d in
    let first = first_row g.h g.w b.screen screen in
    let last = last_row g.h g.w b.screen screen in
    record {
      answer = accepted did.report first last g d;
      session = session_of did.state g;
      lent = lent_of (T b.stores) did.state g;
    }

unfoldable pub finished : Session → Lent → Outcome → Called
finished s b (refused code) = turned_down s b code
finished s b (done did) = shown s.frame b did

-- SIZE, then SESSION, then what the plain editor says: KEY, FULL, LINE or done. (01, refusals: order. 02, M-106.)
unfoldable pub keyed : Session → Key → Lent → Called
keyed s k b =
    unless (check SIZE (tabled s.frame.h s.frame.w b) ∷ check SESSION (is_session s b.stores) ∷ []) (turned_down s b)
    (finished s b (key (T b.stores) quarter k (held s b.stores)))
