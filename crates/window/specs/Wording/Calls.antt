-- How the promises of this layer's functions speak: spots, texts as they are lent, and the outcome of a call as one value.
use Rattle.std.specs.Prelude.{◌≡◌, ◌≤◌, ◌<◌, List, Bool, ◌&&◌, cond, ℕ, ◌+◌, ◌*◌, true, leb, ltb, length, take, Option, Some, None, Result, Ok, Err}
use Rattle.window.specs.Words.{Lengths, Frame, Session}
use Rattle.gap.specs.Rules.Doc.{Doc}
use Rattle.gap.specs.Rules.Lines.{newlines}
use Rattle.gap.specs.Rules.Layout.{ungap}
use Rattle.editor.specs.declared.refusals.Refusal.{Refusal}
use Rattle.editor.specs.declared.stores.Stores.{Stores as LentStores}
use Rattle.editor.specs.Rules.Refusals.{number}
use Rattle.editor.specs.Rules.Plain.{Plain, Did}
use Rattle.editor.specs.Rules.Bytes.{Stores, EditorReply, quarter, quarter_of, plain_of}
use Rattle.editor.specs.Wording.Promise.{Sound, stores}
use Rattle.editor.specs.Wording.Stores.{stores_as}
use Rattle.window.specs.declared.Spot.{Spot}
use Rattle.window.specs.declared.Rows.{Rows}
use Rattle.window.specs.declared.Accepted.{Accepted}
use Rattle.window.specs.declared.Unopened.{Unopened}
use Rattle.window.specs.Wording.Unopened.{refusal_in, place_in}
use Rattle.window.specs.Wording.Painter.{rows_in, FromOne}
use Rattle.window.specs.Rules.Window.{virtual_in, row_of, column_of, window, policy_row, policy_column}
use Rattle.window.specs.Rules.Rows.{first_row, last_row}
use Rattle.window.specs.Rules.Core.{Lent, Reply, Called, tabled, session_in, refusal, zero_record, shown, opened_text, opened}

-- ---- Cursor

-- The newlines of a store's first l bytes: those left of the document's cursor.
abbrev pub newlines_left : ℕ → List ℕ → ℕ
newlines_left l text = newlines (take l text)

-- A key but CUT has made l bytes left of the cursor to m: where these are no fewer, the l bytes still have the newlines counted in them before; where they
-- are more or fewer, lines that it reports are the newlines that came or went.
pub record LeftCounted (above l m lines : ℕ) (text : List ℕ) : Type 0 where
  pub grown : l ≤ m → above ≡ newlines_left l text
  pub gained : l < m → 1 ≤ lines → newlines_left m text ≡ above + lines
  pub cut : m < l → above ≡ newlines_left m text + lines

-- What the session test finds, in quarters of Q bytes.
abbrev pub session_test : ℕ → Session → Stores → Option ℕ
session_test Q s b = cond (session_in Q s b) (Some (newlines_left s.lengths.main.l b.text)) None

-- Where the cursor of a document stands.
abbrev pub spot_in : Doc → Spot
spot_in d = record { row = row_of d; column = column_of d }

-- Visibility and policy of a spot: `visible` and `policy` of the definitions at the document's own spot.
abbrev pub visible_at : Frame → Spot → Bool
visible_at f s =
    (ltb f.r s.row && leb s.row (f.r + f.h)) && (leb f.c s.column && leb s.column (f.c + f.w))

abbrev pub policy_at : Frame → Spot → Frame
policy_at f s = record { r = policy_row f s.row; c = policy_column f s.column; h = f.h; w = f.w }

-- ---- Lent texts

-- Document and quotation lie in text and side store with these lengths, in quarters of Q bytes.
pub record TextsIn (Q : ℕ) (n : Lengths) (text side : List ℕ) : Type 0 where
  pub document : n.main.l + n.main.r ≤ length text
  pub long : length text ≤ 65536
  pub quotation : n.quoted.l + n.quoted.r ≤ Q
  pub quarters : length side ≡ 4 * Q

abbrev pub Texts : Lengths → List ℕ → List ℕ → Type 0
Texts n text side = TextsIn quarter n text side

-- The virtual text that they hold.
abbrev pub virtual_held_in : ℕ → Lengths → List ℕ → List ℕ → Doc
virtual_held_in Q n text side =
    virtual_in n.mode (ungap n.main.l n.main.r text) (ungap n.quoted.l n.quoted.r (quarter_of Q 0 side))

abbrev pub virtual_held : Lengths → List ℕ → List ℕ → Doc
virtual_held n text side = virtual_held_in quarter n text side

-- They lie there in quarters of some length, no longer than now.
abbrev pub HasTexts : Lengths → List ℕ → List ℕ → Type 0
HasTexts n text side = (Q : ℕ) × (Q ≤ quarter) × TextsIn Q n text side

-- The spot of their cursor, whatever the length of a quarter is: it is left of the cursor that counts.
abbrev pub IsSpot : Spot → Lengths → List ℕ → List ℕ → Type 0
IsSpot s n text side = (Q : ℕ) → TextsIn Q n text side → s ≡ spot_in (virtual_held_in Q n text side)

-- A screen made new: it is the window, and the rows are those that changed.
pub record Refreshed (f : Frame) (d : Doc) (old : List ℕ) (named : Option Rows) (new : List ℕ) : Type 0 where
  pub screen : new ≡ window f d
  pub rows : rows_in named ≡ record { first = first_row f.h f.w old (window f d); last = last_row f.h f.w old (window f d) }
  pub from_one : FromOne named

-- ---- Calls

-- The five lent stores as one value, one by one or the four with the screen, and a reply with them as a call's outcome.
abbrev pub lent : List ℕ → List ℕ → List ℕ → List ℕ → List ℕ → Lent
lent text recall held side screen = record { stores = record { text = text; recall = recall; held = held; side = side }; screen = screen }

abbrev pub lent_as : LentStores → List ℕ → Lent
lent_as s screen = record { stores = stores_as s; screen = screen }

abbrev pub called : Reply → Lent → Called
called r b = record { answer = r.answer; session = r.session; lent = b }

-- The replies of a refused opening and of a refused key.
abbrev pub unopened_reply : ℕ → ℕ → Reply
unopened_reply code place = record { answer = refusal code place; session = zero_record }

abbrev pub turned_down_reply : ℕ → Session → Reply
turned_down_reply code s = record { answer = refusal code 0; session = s }

-- What the code answers, as such replies; refused, a key gives back the record that it was given.
abbrev pub accepted_reply : Accepted → Reply
accepted_reply a =
    record {
      answer =
          record { code = 0; place = 0; report = a.report; first = (rows_in a.named).first; last = (rows_in a.named).last; row = a.row; column = a.column };
      session = a.session;
    }

abbrev pub unopened_of : Unopened → Reply
unopened_of why = unopened_reply (number (refusal_in why)) (place_in why)

-- The tests of an opening refuse it as the call does, or the text is opened.
abbrev pub Openable : Result (Unit {0}) Unopened → ℕ → ℕ → ℕ → Lent → Type 0
Openable (Ok _) n H W b = (tabled H W b ≡ true) × (n ≤ length b.stores.text) × (opened_text n H W b ≡ opened n H W b)
Openable (Err why) n H W b = called (unopened_of why) b ≡ opened n H W b

abbrev pub open_reply : Result Accepted Unopened → Reply
open_reply (Ok a) = accepted_reply a
open_reply (Err why) = unopened_of why

abbrev pub key_reply : Session → Result Accepted Refusal → Reply
key_reply s (Ok a) = accepted_reply a
key_reply s (Err e) = turned_down_reply (number e) s

-- What the editor's key call reports, about the plain state that record and stores then hold.
abbrev pub reported : EditorReply → Stores → Did Plain
reported r b = record { state = plain_of quarter r.lengths b; report = r.report }

-- An accepted key is shown without a look at the stores of recall text and held text, whatever they hold.
abbrev pub Shows : Reply → Frame → EditorReply → (text side screen screen_then : List ℕ) → Type 0
Shows r f done text side screen screen_then =
    (recall held : List ℕ) → Sound quarter done.lengths (stores text recall held side)
    → tabled f.h f.w (lent text recall held side screen) ≡ true
    → called r (lent text recall held side screen_then) ≡ shown f (lent text recall held side screen) (reported done (stores text recall held side))
