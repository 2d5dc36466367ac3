-- The wrong editors that document 01 names, each with the theorem that it does not keep the promise. (01, how a wrong editor is kept out.)
use mathlib.Core.Path.{◌≡◌, refl, sym, ap, ◌∙◌}
use mathlib.Core.Logic.{◌≢◌}
use mathlib.Core.Bool.{true, ◌&&◌}
use mathlib.Core.List.{List, [], ◌∷◌}
use Prim.Native.Nat.{ℕ, zero, suc, ◌*◌}
use native.Mathlib.Omega.{arith}
use lib.ListN.{get_or}
use Rattle.gap.specs.Rules.Sequence.{every, same_bytes, part, zeros, counted}
use Rattle.gap.specs.Rules.Strings.{bytes}
use Rattle.gap.specs.Rules.Doc.{move, times, passed, splice}
use Rattle.gap.specs.Rules.Nearest.{nearest, distance, LeastMoves}
use Rattle.gap.specs.Rules.Lines.{newlines, since_after, lines}
use Rattle.gap.specs.Rules.Layout.{gapped, paired, ungap, unpair, sound_gap, sound_pair}
use Rattle.gap.proofs.Laws.Tests.{and_left, and_right}
use Rattle.gap.proofs.Laws.Sequence.{same-equal}
use Rattle.gap.specs.Rules.LineLimits.{none_longer, lines_fit, long_line}
use Rattle.gap.specs.Rules.Fields.{line_of, line_at}
use Rattle.editor.specs.Rules.Refusals.{LINE}
use Rattle.editor.specs.Rules.LongLines.{longest_line}
use Rattle.editor.specs.Rules.Passages.{with_lines, passage_to}
use Rattle.editor.specs.Rules.Places.{line_beginning, word, is_at}
use Rattle.editor.specs.Rules.Plain.{quiet, reporting}
use Rattle.editor.specs.Rules.Marks.{mark_through}
use Rattle.editor.specs.Rules.Keys.{sound_key, inserted, carried, function, on_side, acted, change_of, pressed, fits, bounded, key, Unsound}
use Rattle.editor.specs.Rules.Bytes.{quarter, sized, plain_of, lengths_of, stores_of, editor_ok}
use Rattle.window.specs.Words.{Direction, Action, Place, Session, Key, Insert, Function}
use Rattle.window.specs.Rules.Window.{virtual_in, row_cells, joined, window, visible, policy}
use Rattle.window.specs.Rules.Rows.{first_row, last_row}
use Rattle.window.specs.Rules.Core.{Lent, Answer, Called, T, held, turned_down, unopened, tabled, is_session, opened_text, opened, shown, finished, keyed}
use Rattle.window.specs.Rules.Terminal.{Bench, opened_bench, given, repaint, opening_view, viewed, picture}
use Rattle.window.specs.Wording.Promise.{BenchRun, at-end, press}
use Rattle.window.specs.Wording.Demands.{OnSession, text_in, Opens, Presses, OpensWell, PressesWell}
use Rattle.gap.specs.Tables.Written.{marked_after}
use Rattle.window.specs.Tables.Table.{pressing, moving, outcome, usual, right_word}
use Rattle.window.proofs.Theorems.Promises.{steps-moved, terminal-shows}

-- P1's session, `her| hand is`; what right to word gives there, and what it gives again (P2).
p0 : Called
p0 = outcome (usual "her| hand is" [] [])

p1 : Called
p1 = keyed p0.session right_word p0.lent

p2 : Called
p2 = keyed p1.session right_word p1.lent

-- Both are accepted, with 1 and 5 steps; the cursor goes from behind 3 bytes to behind 4; no row is named.
computed : List ℕ
computed =
    p1.answer.code ∷ p1.answer.report.steps ∷ p2.answer.report.steps
    ∷ p0.session.lengths.main.l ∷ p1.session.lengths.main.l ∷ p1.answer.first ∷ []

numbers : same_bytes computed (0 ∷ 1 ∷ 5 ∷ 3 ∷ 4 ∷ 0 ∷ []) ≡ true
unfolding computed p0 p1 p2 every same_bytes part zeros counted bytes move times nearest distance passed with_lines passage_to newlines
    since_after lines gapped paired ungap unpair sound_gap sound_pair line_beginning word is_at sound_key carried function on_side acted change_of
    mark_through pressed fits bounded key quarter sized plain_of lengths_of stores_of editor_ok lines_fit none_longer longest_line virtual_in
    row_cells joined window visible policy first_row last_row tabled is_session opened_text opened long_line line_at line_of shown finished keyed
    marked_after pressing moving outcome
numbers = refl

fact : (i : ℕ) → get_or computed i 0 ≡ get_or (0 ∷ 1 ∷ 5 ∷ 3 ∷ 4 ∷ 0 ∷ []) i 0
fact i = ap (λ l. get_or l i 0) (same-equal _ _ numbers)

p1-accepted : (keyed p0.session right_word p0.lent).answer.code ≡ 0
unfolding p1 computed
p1-accepted = fact 0

p1-steps : (keyed p0.session right_word p0.lent).answer.report.steps ≡ 1
unfolding p1 computed
p1-steps = fact 1

p2-steps : (keyed p1.session right_word p1.lent).answer.report.steps ≡ 5
unfolding p2 computed
p2-steps = fact 2

p0-left : p0.session.lengths.main.l ≡ 3
unfolding computed
p0-left = fact 3

p1-left : (keyed p0.session right_word p0.lent).session.lengths.main.l ≡ 4
unfolding p1 computed
p1-left = fact 4

p1-unnamed : (keyed p0.session right_word p0.lent).answer.first ≡ 0
unfolding p1 computed
p1-unnamed = fact 5

-- Stores for two bytes and a screen of two cells: an empty text is opened.
blank : Lent
blank = record { stores = record { text = zeros 2; recall = zeros 2; held = zeros 2; side = zeros (4 * quarter) }; screen = zeros 2 }

blank-opens : (opened 0 1 2 blank).answer.code ≡ 0
unfolding blank zeros nearest quarter sized tabled opened_text opened long_line line_at line_of
blank-opens = refl

-- ---- What is not shut out: the definitions themselves keep both promises

pub opened-well : OpensWell opened
opened-well n H W b = refl

pub keyed-well : PressesWell keyed
keyed-well s k b = refl

-- ---- A core that always refuses (demand 2: the refusals' "exactly when")

-- It may choose its number, above 0, each time anew.
abbrev pub refusing : (Session → Key → Lent → ℕ) → Presses
refusing number s k b = turned_down s b (suc (number s k b))

pub refusing-out : (number : Session → Key → Lent → ℕ) → ¬ PressesWell (refusing number)
refusing-out number well = omega (arith, ap (λ o. o.answer.code) (well p0.session right_word p0.lent), p1-accepted)

abbrev pub unopening : (ℕ → ℕ → ℕ → Lent → ℕ) → Opens
unopening number n H W b = unopened b (suc (number n H W b)) 0

pub unopening-out : (number : ℕ → ℕ → ℕ → Lent → ℕ) → ¬ OpensWell (unopening number)
unopening-out number well = omega (arith, ap (λ o. o.answer.code) (well 0 1 2 blank), blank-opens)

-- ---- One fixed answer, or a key that does nothing (demand 2, on P1)

-- Whatever it does to record and stores, it answers the same each time.
abbrev pub fixed : Answer → Presses → Presses
fixed answer presses s k b = record { answer = answer; session = (presses s k b).session; lent = (presses s k b).lent }

pub fixed_out : (answer : Answer) (presses : Presses) → ¬ PressesWell (fixed answer presses)
fixed_out answer presses well =
    let once = ap (λ o. o.answer.report.steps) (well p0.session right_word p0.lent) in
    let again = ap (λ o. o.answer.report.steps) (well p1.session right_word p1.lent) in
    omega (arith, p1-steps, p2-steps)

-- Whatever it answers, it leaves record and stores as they were.
abbrev pub idle : (Session → Key → Lent → Answer) → Presses
idle answer s k b = record { answer = answer s k b; session = s; lent = b }

pub idle-out : (answer : Session → Key → Lent → Answer) → ¬ PressesWell (idle answer)
idle-out answer well =
    let stays = ap (λ o. o.session.lengths.main.l) (well p0.session right_word p0.lent) in
    omega (arith, p0-left, p1-left)

-- ---- One that edits on the first key and afterwards only repaints (demand 3: every key in the list counts)

-- It may remember how many keys it had.
abbrev pub editing_once : ℕ → Presses
editing_once zero s k b = keyed s k b
editing_once (suc n) s k b = shown s.frame b (reporting quiet (held s b.stores))

-- Opened on an empty text and given `a` and `b`, its terminal shows `a ` where the window of the plain document is `ab`.
begun : Bench
begun = opened_bench 0 1 2 blank

one : Bench
one = let o = begun.called in given (editing_once 0 o.session (Insert 97) o.lent) begun.terminal

two : Bench
two = let o = one.called in given (editing_once 1 o.session (Insert 98) o.lent) one.terminal

abbrev plainly : List ℕ
plainly = picture (viewed (T blank.stores) (Insert 97 ∷ Insert 98 ∷ []) (opening_view 0 1 2 blank))

shown-cells : (same_bytes two.terminal (97 ∷ 32 ∷ []) && same_bytes plainly (97 ∷ 98 ∷ [])) ≡ true
unfolding blank begun one two every same_bytes part zeros counted splice nearest newlines since_after lines gapped paired ungap unpair
    sound_gap sound_pair sound_key inserted on_side acted change_of mark_through pressed fits bounded key quarter sized plain_of lengths_of stores_of
    editor_ok lines_fit none_longer longest_line virtual_in row_cells joined window visible policy first_row last_row tabled is_session opened_text
    opened long_line line_at line_of shown finished keyed repaint viewed
shown-cells = refl

pub editing-once-out : ¬ ((n : ℕ) → PressesWell (editing_once n))
unfolding begun one two
editing-once-out well =
    let first = begun.called in
    let second = one.called in
    let run : BenchRun (Insert 97 ∷ Insert 98 ∷ []) begun two =
    press _ (well 0 first.session (Insert 97) first.lent) (press _ (well 1 second.session (Insert 98) second.lent) at-end) in
    let shows : two.terminal ≡ plainly = (terminal-shows 0 1 2 blank first refl blank-opens _ two run).0 in
    let wrong = same-equal two.terminal (97 ∷ 32 ∷ []) (and_left _ _ shown-cells) in
    let right = same-equal plainly (97 ∷ 98 ∷ []) (and_right (same_bytes two.terminal (97 ∷ 32 ∷ [])) _ shown-cells) in
    omega (arith, ap (λ l. get_or l 1 0) (sym wrong ∙ shows ∙ right))

-- ---- Made-up steps (demand 2: the distance)

-- All is right but the steps.
abbrev pub inventing : (Session → Key → Lent → ℕ) → Presses
inventing steps s k b =
    let o = keyed s k b in
    let a = o.answer in
    record {
      answer =
          record {
            code = a.code;
            place = a.place;
            report = record { steps = steps s k b; lines = a.report.lines; bell = a.report.bell };
            first = a.first;
            last = a.last;
            row = a.row;
            column = a.column;
          };
      session = o.session;
      lent = o.lent;
    }

-- Steps made up from the key alone, without a look at the text.
pub inventing-out : (steps : Key → ℕ) → ¬ PressesWell (inventing (λ s k b. steps k))
inventing-out steps well =
    let once = ap (λ o. o.answer.report.steps) (well p0.session right_word p0.lent) in
    let again = ap (λ o. o.answer.report.steps) (well p1.session right_word p1.lent) in
    omega (arith, p1-steps, p2-steps)

-- Whatever they are made up from, where they keep the promise they are the distance.
pub invented-distance : (steps : Session → Key → Lent → ℕ) → PressesWell (inventing steps) → (s : Session) (b : Lent) → OnSession s b
    → let p = held s b.stores in
    (action : Action) (way : Direction) (place : Place) → ¬ Unsound p.mode (Function action way place)
    → (keyed s (Function action way place) b).answer.code ≢ LINE
    → (n : ℕ) → LeastMoves way (is_at place way) (text_in p.mode p) n → steps s (Function action way place) b ≡ n
invented-distance steps well s b on action way place good fits n least =
    let k = Function action way place in
    ap (λ report. report.steps) (((steps-moved s b on (inventing steps s k b) action way place (well s k b) good fits).steps n).1 least).1

-- ---- All rows named each time (demand 3: the shortest run)

abbrev pub naming_all : Presses
naming_all s k b =
    let o = keyed s k b in
    let a = o.answer in
    record {
      answer = record { code = a.code; place = a.place; report = a.report; first = 1; last = s.frame.h; row = a.row; column = a.column };
      session = o.session;
      lent = o.lent;
    }

pub naming-all-out : ¬ PressesWell naming_all
naming-all-out well = omega (arith, ap (λ o. o.answer.first) (well p0.session right_word p0.lent), p1-unnamed)
