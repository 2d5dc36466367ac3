-- What the demands say of the outcome of a call, part by part. Theorems say it of whatever outcome meets a promise.
use Rattle.std.specs.Prelude.{◌≡◌, ◌↔◌, ◌≢◌, ◌≤◌, ◌<◌, List, Bool, true, false, ℕ, ◌+◌, ◌-◌}
use Rattle.window.specs.Words.{Direction, Left, Right, Action, Move, Delete, Mode, Main, Quoted, Key, Session}
use Rattle.gap.specs.Rules.Doc.{Doc, content, room, move, delete, times}
use Rattle.gap.specs.Rules.Nearest.{LeastMoves}
use Rattle.gap.specs.Rules.Lines.{newlines}
use Rattle.editor.specs.Rules.Refusals.{SIZE, SESSION, KEY, FULL, ROOM, LINE}
use Rattle.editor.specs.Rules.Passages.{lines_passed}
use Rattle.editor.specs.Rules.Plain.{Plain, rang, went, Did, done}
use Rattle.editor.specs.Rules.Keys.{pressed, key, Unsound, Exceeds, LongLine}
use Rattle.editor.specs.Rules.Bytes.{quarter, lengths_of, stores_of}
use Rattle.window.specs.Rules.Window.{virtual, row_of, column_of, window, visible, policy}
use Rattle.window.specs.Rules.Rows.{Shortest}
use Rattle.window.specs.Rules.Core.{Lent, Called, T, tabled, is_session, held, turned_down}
use Rattle.window.specs.Rules.Terminal.{Bench, given}
use Rattle.window.specs.Rules.Machine.{Line}
use Rattle.window.specs.Wording.Promise.{OpenPromise, KeyPromise, BenchRun, at-end, press, LineRun, at_rest, strike}

-- ---- Demand 2: what a key does

-- Record and stores are as tabled, and a session.
pub record OnSession (s : Session) (b : Lent) : Type 0 where
  pub fit : tabled s.frame.h s.frame.w b ≡ true
  pub ok : is_session s b.stores ≡ true

-- An accepted key, beside what the plain editor did with the state that record and stores held.
pub record Carried (s : Session) (k : Key) (b : Lent) (o : Called) : Type 0 where
  pub did : Did Plain
  pub plain : key (T b.stores) quarter k (held s b.stores) ≡ done did
  -- Record and stores are a session again; they hold the plain editor's state, in the one layout that it has at this T.
  pub follows : OnSession o.session o.lent
  pub holds : held o.session o.lent.stores ≡ did.state
  pub lengths : o.session.lengths ≡ lengths_of did.state
  pub stores : o.lent.stores ≡ stores_of (T b.stores) quarter did.state
  -- Steps, lines and bell are the plain editor's report; place is 0.
  pub place : o.answer.place ≡ 0
  pub report : o.answer.report ≡ did.report
  -- The screen is the window of that state under the policy's offsets, in which the cursor is visible.
  pub offsets : o.session.frame ≡ policy s.frame (virtual did.state)
  pub screen : o.lent.screen ≡ window o.session.frame (virtual did.state)
  pub seen : visible o.session.frame (virtual did.state) ≡ true
  -- The cursor is reported as row - r and column - c.
  pub row : o.answer.row ≡ row_of (virtual did.state) - o.session.frame.r
  pub column : o.answer.column ≡ column_of (virtual did.state) - o.session.frame.c

-- A key on any record and any stores: each refusal exactly when its condition applies and none before it does.
pub record KeyDoes (s : Session) (k : Key) (b : Lent) (o : Called) : Type 0 where
  pub size : (o.answer.code ≡ SIZE) ↔ (tabled s.frame.h s.frame.w b ≡ false)
  pub session : (o.answer.code ≡ SESSION) ↔ ((tabled s.frame.h s.frame.w b ≡ true) × (is_session s b.stores ≡ false))
  -- KEY: a byte that is not allowed, one of two deletions, or MARK, CUT or PASTE in QUOTED. FULL: the finished text would exceed its store.
  -- LINE: the finished document would have a line that is too long for the reader.
  pub unsound : (o.answer.code ≡ KEY) ↔ (OnSession s b × Unsound (held s b.stores).mode k)
  pub full : (o.answer.code ≡ FULL)
      ↔ (OnSession s b × (¬ Unsound (held s b.stores).mode k) × Exceeds (T b.stores) quarter (pressed k (held s b.stores)).state)
  pub line : (o.answer.code ≡ LINE)
      ↔ (OnSession s b
      × (¬ Unsound (held s b.stores).mode k)
      × (¬ Exceeds (T b.stores) quarter (pressed k (held s b.stores)).state)
      × LongLine (pressed k (held s b.stores)).state)
  pub accepted : (o.answer.code ≡ 0)
      ↔ (OnSession s b
      × (¬ Unsound (held s b.stores).mode k)
      × (¬ Exceeds (T b.stores) quarter (pressed k (held s b.stores)).state)
      × (¬ LongLine (pressed k (held s b.stores)).state))
  -- Refused, the record comes back and no byte of the five stores has changed; place, steps, lines, bell, rows and cursor are 0.
  pub refused : o.answer.code ≢ 0 → o ≡ turned_down s b o.answer.code
  -- Accepted, it is the plain editor's key.
  pub carried : o.answer.code ≡ 0 → Carried s k b o

-- ---- Demand 2: steps and bell

-- The text on which moves and deletions act, and the pattern of a search: in QUOTED both are the quotation. (01, plain editor: QUOTED,
-- FIND.)
abbrev pub text_in : Mode → Plain → Doc
text_in Main p = p.main.text
text_in Quoted p = p.quoted.text

abbrev pub pattern_in : Mode → Plain → List ℕ
pattern_in Main p = p.pattern
pattern_in Quoted p = content p.quoted.text

-- One single step of a move or a deletion.
abbrev pub singly : Action → Direction → Doc → Doc
singly Move way d = move way d
singly Delete way d = delete way d

-- Accepted, with n steps over so many newlines and no bell; accepted, with 0 steps, 0 lines and the bell.
abbrev pub Went : Called → ℕ → ℕ → Type 0
Went o n lines = (o.answer.code ≡ 0) × (o.answer.report ≡ went n lines)

abbrev pub Rang : Called → Type 0
Rang o = (o.answer.code ≡ 0) × (o.answer.report ≡ rang)

-- No number of moves reaches the place, of those that there is room for.
abbrev pub Unreached : Direction → (Doc → Bool) → Doc → Type 0
Unreached way place d = (n : ℕ) → 0 < n → n ≤ room way d → place (times (move way) n d) ≡ false

-- 01, distance: steps n and no bell exactly when n is the least number above 0 of moves that reach the place; steps 0 and the bell exactly
-- when no number does. 02, M-104: lines are the newlines among the bytes that these n moves cross.
pub record StepsTo (way : Direction) (place : Doc → Bool) (d : Doc) (o : Called) : Type 0 where
  pub steps : (n : ℕ) → Went o n (lines_passed way n d) ↔ LeastMoves way place d n
  pub bell : Rang o ↔ Unreached way place d

-- ---- 02, M-104: lines

-- From text d to text e so many newlines were crossed: they are what lies between the two cursors, or what the deletion took away, from before
-- the cursor or from behind it.
abbrev pub Crosses : Action → Direction → Doc → Doc → ℕ → Type 0
Crosses Move Left d e lines = newlines d.l ≡ newlines e.l + lines
Crosses Move Right d e lines = newlines e.l ≡ newlines d.l + lines
Crosses Delete Left d e lines = newlines d.l ≡ newlines e.l + lines
Crosses Delete Right d e lines = newlines d.r ≡ newlines e.r + lines

-- The cursor's row goes from one to another over so many lines: up to the left, down to the right; a deletion to the right leaves it.
abbrev pub RowsApart : Action → Direction → ℕ → ℕ → ℕ → Type 0
RowsApart Move Left before after lines = before ≡ after + lines
RowsApart Move Right before after lines = after ≡ before + lines
RowsApart Delete Left before after lines = before ≡ after + lines
RowsApart Delete Right before after lines = after ≡ before

-- ---- Demand 3: named rows at every key of a run

-- One key, on a bench of H rows and W columns.
pub record NamesRows (H W : ℕ) (at : Bench) (o : Called) : Type 0 where
  -- The terminal shows what is lent to the call, and then what the call gives back;
  pub before : at.terminal ≡ at.called.lent.screen
  pub after : (given o at.terminal).terminal ≡ o.lent.screen
  -- and the named rows are the shortest run that covers every row in which these differ.
  pub shortest : Shortest H W at.terminal (given o at.terminal).terminal o.answer.first o.answer.last

-- Every key of a run of calls.
abbrev pub RowsNamed : ℕ → ℕ → {ks : List Key} {at end : Bench} → BenchRun ks at end → Type 0
RowsNamed H W at-end = Unit {0}
RowsNamed H W (press {at = at} o promise run) = NamesRows H W at o × RowsNamed H W run

-- ---- Demand 3 on a line: what has to be sent has room

-- In a run of calls the routine never answers ROOM.
abbrev pub RunSent : {ks : List Key} {at end : Line} → LineRun ks at end → Type 0
RunSent at_rest = Unit {0}
RunSent (strike o p key-promise promise run) = (p.code ≢ ROOM) × RunSent run

-- ---- An editor as its answers

-- What an editor answers to a text that is opened, and to a key, on anything it is given.
abbrev pub Opens : Type 0
Opens = ℕ → ℕ → ℕ → Lent → Called

abbrev pub Presses : Type 0
Presses = Session → Key → Lent → Called

-- It keeps the promise of the call.
abbrev pub OpensWell : Opens → Type 0
OpensWell opens = (n H W : ℕ) (b : Lent) → OpenPromise n H W b (opens n H W b)

abbrev pub PressesWell : Presses → Type 0
PressesWell presses = (s : Session) (k : Key) (b : Lent) → KeyPromise s k b (presses s k b)
