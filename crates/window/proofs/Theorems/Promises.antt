-- The three demands as corollaries of what the two calls promise: whatever outcomes they give, if each meets its promise. And the
-- third of the bytes on a line, with what the routine for terminals promises.
use mathlib.Core.Path.{◌≡◌, refl, sym, ap, subst, subst⁻¹, transport, ◌∙◌}
use mathlib.Core.Logic.{◌≢◌}
use mathlib.Core.Bool.{true}
use mathlib.Core.List.{List}
use Prim.Native.Nat.{ℕ, ◌*◌}
use lib.ListN.{length, take}
use Rattle.editor.specs.declared.Key.{Key}
use Rattle.editor.specs.Rules.Refusals.{ROOM, LINE}
use Rattle.editor.specs.Rules.Places.{is_at}
use Rattle.editor.specs.Rules.Plain.{Plain, opening}
use Rattle.editor.specs.Rules.Keys.{matches, key, keys, after, Unsound}
use Rattle.editor.specs.Rules.Bytes.{quarter}
use Rattle.window.specs.Words.{Direction, Action, Move, Place, Function, Find, Session}
use Rattle.window.specs.Rules.Core.{Lent, Called, T, tabled, held, is_session, unopened, opened, turned_down, keyed}
use Rattle.window.specs.Rules.Sending.{SendOutcome, unsent}
use Rattle.window.specs.Wording.Promise.{OpenPromise, KeyPromise, SendPromise, SendAfterPromise}
use Rattle.window.specs.Wording.Promise.{BenchRun, at-end, press, LineRun, at_rest, strike}
use Rattle.window.specs.Wording.Demands.{OnSession, KeyDoes, text_in, pattern_in, StepsTo, NamesRows, RowsNamed, RunSent}
use Rattle.window.specs.Rules.Rows.{Shortest}
use Rattle.window.specs.Rules.Terminal.{Bench, View, given, opening_view, struck, typed, looked, viewed, picture, Good, Showing}
use Rattle.window.specs.Rules.Sequences.{sent_column}
use Rattle.window.specs.Rules.Machine.{Machine, cells, machine, Line, received, bytes_after, opened_line, struck_line, typed_line}
use Rattle.window.specs.Rules.Machine.{AllSent, showing, Ready}
use Rattle.window.proofs.Theorems.Refusals.{opening-leaves, key-leaves}
use Rattle.window.proofs.Theorems.Sessions.{opening-view, key-follows}
use Rattle.window.proofs.Theorems.DemandThree.{key-good, key-showing, opening-showing, demand-three, key-names, view-names, looked-size}
use Rattle.window.proofs.Theorems.KeyDoes.{keyed-does}
use Rattle.window.proofs.Theorems.Steps.{move-fits, function-steps, find-steps}
use Rattle.window.proofs.Theorems.Sending.{sending-leaves}
use Rattle.window.proofs.Theorems.AfterCalls.{key-shown}
use Rattle.window.proofs.Theorems.Line.{demand-three-sent, demand-three-line}

-- Demand 1: a call that is refused has changed no byte, and hands back the record as document 01 says.
pub opening-refused : (n H W : ℕ) (b : Lent) (o : Called) → OpenPromise n H W b o → (o.answer.code ≡ 0 → ⊥)
    → o ≡ unopened b o.answer.code o.answer.place
opening-refused n H W b o promise bad =
    subst (λ x. (x.answer.code ≡ 0 → ⊥) → x ≡ unopened b x.answer.code x.answer.place) (sym promise) (opening-leaves n H W b) bad

pub key-refused : (s : Session) (k : Key) (b : Lent) (o : Called) → KeyPromise s k b o → (o.answer.code ≡ 0 → ⊥)
    → o ≡ turned_down s b o.answer.code
key-refused s k b o promise bad =
    subst (λ x. (x.answer.code ≡ 0 → ⊥) → x ≡ turned_down s b x.answer.code) (sym promise) (key-leaves s k b) bad

-- Demand 2 in full, on any record and stores: which number exactly when, what a refusal leaves, and what an accepted key does.
pub key-does : (s : Session) (k : Key) (b : Lent) (o : Called) → KeyPromise s k b o → KeyDoes s k b o
key-does s k b o promise = subst⁻¹ (KeyDoes s k b) promise (keyed-does s k b)

-- Its part that has a name of its own: on a session, record and stores handed back hold what the plain editor says of the state before.
pub key-holds : (s : Session) (k : Key) (b : Lent) (o : Called) → KeyPromise s k b o
    → tabled s.frame.h s.frame.w b ≡ true → is_session s b.stores ≡ true
    → held o.session o.lent.stores ≡ after (held s b.stores) (key (T b.stores) quarter k (held s b.stores))
key-holds s k b o promise fit ok = ap (λ x. held x.session x.lent.stores) promise ∙ (key-follows s k b fit ok).holds

-- Steps and bell, on any session: of moves and deletions that do not get LINE the distance to the place, of FIND and UPFIND to the nearest match.
module _ (s : Session) (b : Lent) (on : OnSession s b) (o : Called) where
  abbrev state : Plain
  state = held s b.stores

  pub steps-moved : (action : Action) (way : Direction) (place : Place) → KeyPromise s (Function action way place) b o
      → ¬ Unsound state.mode (Function action way place) → o.answer.code ≢ LINE → StepsTo way (is_at place way) (text_in state.mode state) o
  steps-moved action way place promise good fits =
      subst⁻¹ (StepsTo way (is_at place way) (text_in state.mode state)) promise
      (function-steps s b on action way place good (λ e. fits (ap (λ x. x.answer.code) promise ∙ e)))

  -- A move never gets LINE, so that of moves this says all. (02, M-106.)
  pub move_taken : (way : Direction) (place : Place) → KeyPromise s (Function Move way place) b o → o.answer.code ≢ LINE
  move_taken way place promise e = move-fits s b on way place (sym (ap (λ x. x.answer.code) promise) ∙ e)

  pub steps-found : (way : Direction) → KeyPromise s (Find way) b o → StepsTo way (matches (pattern_in state.mode state)) state.main.text o
  steps-found way promise = subst⁻¹ (StepsTo way (matches (pattern_in state.mode state)) state.main.text) promise (find-steps s b on way)

-- Demand 3: any run of calls, with the terminal given the named rows.
run_typed : {ks : List Key} {at end : Bench} → BenchRun ks at end → end ≡ typed ks at
unfolding typed struck
run_typed at-end = refl
run_typed (press {ks = ks} {at = at} o promise run) = run_typed run ∙ ap (λ x. typed ks (given x at.terminal)) promise

run-from : (size H W : ℕ) (v : View) → Good size v → v.frame.h ≡ H → v.frame.w ≡ W
    → {ks : List Key} {at end : Bench} (run : BenchRun ks at end) → Showing size v at → RowsNamed H W run
unfolding struck
run-from size H W v good rows columns at-end shows = tt
run-from size H W v good rows columns (press {k = k} {at = at} o promise run) shows =
    let outcome = key size quarter k v.plain in
    let here = transport (λ i. NamesRows (rows i) (columns i) at (keyed at.called.session k at.called.lent)) (view-names size k v good at shows) in
    let next = subst⁻¹ (λ x. Showing size (looked v outcome) (given x at.terminal)) promise (key-showing size k v good at shows) in (
      subst⁻¹ (NamesRows H W at) promise here,
      run-from size H W (looked v outcome) (key-good size k v good) ((looked-size v outcome).0 ∙ rows) ((looked-size v outcome).1 ∙ columns) run next,
    )

module _ (n H W : ℕ) (b : Lent) (o : Called) (promise : OpenPromise n H W b o) (accepts : o.answer.code ≡ 0) where
  opens : (opened n H W b).answer.code ≡ 0
  opens = ap (λ x. x.answer.code) (sym promise) ∙ accepts

  pub terminal-shows : (ks : List Key) (end : Bench) → BenchRun ks (record { called = o; terminal = o.lent.screen }) end
      → (end.terminal ≡ picture (viewed (T b.stores) ks (opening_view n H W b)))
      × ((viewed (T b.stores) ks (opening_view n H W b)).plain ≡ keys (T b.stores) quarter ks (opening (take n b.stores.text)))
  terminal-shows ks end run =
      let shown = demand-three n H W b opens ks in
      (ap (λ x. x.terminal) (run_typed run ∙ ap (λ x. typed ks (record { called = x; terminal = x.lent.screen })) promise) ∙ shown.0, shown.1)

  -- And at every key of the run the named rows are the shortest that cover every row which changes on the terminal.
  pub run-names : (ks : List Key) (end : Bench) (run : BenchRun ks (record { called = o; terminal = o.lent.screen }) end) → RowsNamed H W run
  run-names ks end run =
      run-from (T b.stores) H W (opening_view n H W b) (opening-view n H W b opens) refl refl run
      (subst⁻¹ (λ x. Showing (T b.stores) (opening_view n H W b) (record { called = x; terminal = x.lent.screen })) promise (opening-showing n H W b opens))

-- So it is at any key call, on any record and stores.
pub rows_named : (s : Session) (k : Key) (b : Lent) (o : Called) → KeyPromise s k b o
    → Shortest s.frame.h s.frame.w b.screen o.lent.screen o.answer.first o.answer.last
rows_named s k b o promise =
    subst⁻¹ (λ x. Shortest s.frame.h s.frame.w b.screen x.lent.screen x.answer.first x.answer.last) promise (key-names s k b)

-- The routine: refused, it has written nothing.
pub sending-refused : (H W first last row column : ℕ) (screen buffer : List ℕ) (p : SendOutcome)
    → SendPromise H W first last row column screen buffer p → (p.code ≡ 0 → ⊥) → p ≡ unsent p.code p.place buffer
sending-refused H W first last row column screen buffer p promise bad =
    subst⁻¹ (λ x. (x.code ≡ 0 → ⊥) → x ≡ unsent x.code x.place buffer) promise
    (sending-leaves H W first last row column screen buffer) bad

-- After a key: where it answers 0, a terminal that showed the screen as it was shows the new one, with the cursor as reported.
pub sent-shows : (s : Session) (k : Key) (b : Lent) (buffer : List ℕ) (m : Machine) → m.shows ≡ b.screen → m.reading ≡ cells
    → (o : Called) → KeyPromise s k b o → (p : SendOutcome) → SendAfterPromise o buffer p → p.code ≡ 0
    → (received o p m).terminal ≡ machine o.lent.screen o.answer.row (sent_column s.frame.w o.answer.column)
sent-shows s k b buffer m same ready o promise p send sent =
    let sent-so : (bytes_after (keyed s k b) buffer).code ≡ 0 = ap (λ x. (bytes_after x buffer).code) (sym promise) ∙ (ap (λ x. x.code) (sym send) ∙ sent) in
    ap (λ x. (received o x m).terminal) send
    ∙ subst⁻¹
    (λ x. (received x (bytes_after x buffer) m).terminal ≡ machine x.lent.screen x.answer.row (sent_column s.frame.w x.answer.column))
    promise (key-shown s k b buffer sent-so m same ready)

-- Demand 3 on a line.
run-line : {ks : List Key} {at end : Line} → LineRun ks at end → end ≡ typed_line ks at
unfolding typed_line struck_line
run-line at_rest = refl
run-line (strike {ks = ks} {at = at} o p key-promise promise run) =
    run-line run
    ∙ (ap (λ x. typed_line ks (received o x at.terminal)) promise
    ∙ ap (λ x. typed_line ks (received x (bytes_after x at.buffer) at.terminal)) key-promise)

-- Where the routine never answers ROOM in a run, it does not in the list.
run-sent : {ks : List Key} {at end : Line} (run : LineRun ks at end) → RunSent run → AllSent ks at
unfolding struck_line
run-sent at_rest sent = tt
run-sent (strike {ks = ks} {at = at} o p key-promise promise run) sent =
    let next = ap (λ x. received o x at.terminal) promise ∙ ap (λ x. received x (bytes_after x at.buffer) at.terminal) key-promise in
    let code = ap (λ x. x.code) promise ∙ ap (λ x. (bytes_after x at.buffer).code) key-promise in
    (λ room. sent.0 (code ∙ room), subst (AllSent ks) next (run-sent run sent.1))

module _ (n H W : ℕ) (b : Lent) (o : Called) (promise : OpenPromise n H W b o) (accepts : o.answer.code ≡ 0)
    (buffer : List ℕ) (p : SendOutcome) (m : Machine) (send : SendAfterPromise o buffer p) where
  start : received o p m ≡ opened_line n H W b buffer m
  unfolding opened_line
  start = ap (λ x. received o x m) send ∙ ap (λ x. received x (bytes_after x buffer) m) promise

  -- With any buffer in which the bytes have room each time, and any terminal of the screen's size that is in no sequence.
  pub line-sent : p.code ≢ ROOM → length m.shows ≡ H * W → m.reading ≡ cells
      → (ks : List Key) (end : Line) (run : LineRun ks (received o p m) end) → RunSent run
      → (end.terminal ≡ showing (viewed (T b.stores) ks (opening_view n H W b)))
      × ((viewed (T b.stores) ks (opening_view n H W b)).plain ≡ keys (T b.stores) quarter ks (opening (take n b.stores.text)))
  line-sent room long ready ks end run sent =
      let code = ap (λ x. x.code) send ∙ ap (λ x. (bytes_after x buffer).code) promise in
      let all-sent = subst (AllSent ks) start (run-sent run sent) in
      let shown = demand-three-sent n H W b (opens n H W b o promise accepts) buffer m long ready (λ e. room (code ∙ e)) ks all-sent in
      (ap (λ x. x.terminal) (run-line run ∙ ap (typed_line ks) start) ∙ shown.0, shown.1)

  -- With a buffer of H (W + 7) + 9 bytes it always is so.
  pub line-shows : Ready H W buffer m → (ks : List Key) (end : Line) → LineRun ks (received o p m) end
      → (end.terminal ≡ showing (viewed (T b.stores) ks (opening_view n H W b)))
      × ((viewed (T b.stores) ks (opening_view n H W b)).plain ≡ keys (T b.stores) quarter ks (opening (take n b.stores.text)))
  line-shows ready ks end run =
      let shown = demand-three-line n H W b (opens n H W b o promise accepts) buffer m ready ks in
      (ap (λ x. x.terminal) (run-line run ∙ ap (typed_line ks) start) ∙ shown.0, shown.1)
