-- The routine for terminals after a call, for every buffer: what it answers, and what a simple terminal shows that is sent its bytes.
-- (02, M-100: proved.)
use mathlib.Core.Path.{◌≡◌, refl, sym, ap, subst⁻¹, transport, ◌∙◌}
use mathlib.Core.Logic.{◌≢◌, ⊎_elim}
use mathlib.Core.Bool.{Bool, true, false, cond, and-false}
use mathlib.Core.List.{List}
use Prim.Native.Nat.{ℕ, ◌*◌, ◌≤◌}
use native.Mathlib.Nat.{le_trans}
use native.Mathlib.Omega.{arith}
use lib.Dec.{eqb, leb}
use lib.ListN.{length, take}
use borrow.Author.Tests.{eqb-true, eqb-false, le-leb}
use Rattle.gap.proofs.Laws.Tests.{decided, clash}
use Rattle.editor.specs.declared.Key.{Key}
use Rattle.editor.specs.Rules.Refusals.{SIZE, SESSION, ROOM}
use Rattle.editor.specs.Rules.Plain.{Outcome, refused, done}
use Rattle.editor.specs.Rules.Keys.{pressed, key}
use Rattle.editor.specs.Rules.Bytes.{quarter}
use Rattle.window.specs.Words.{Session}
use Rattle.window.specs.Rules.Window.{policy}
use Rattle.window.specs.Rules.Core.{Lent, Called, T, tabled, is_session, held, opened_text, opened, turned_down, finished, shown, keyed}
use Rattle.window.specs.Rules.Terminal.{View, opening_view, repaint, looked, picture, Good}
use Rattle.window.specs.Rules.Sequences.{sent_column, sent_screen}
use Rattle.window.specs.Rules.Sending.{SendOutcome, rows_on, sendable, unsent, sending}
use Rattle.window.specs.Rules.Machine.{Machine, cells, machine, feed, bytes_after, received, enough}
use Rattle.window.proofs.Laws.Window.{length-window}
use Rattle.window.proofs.Laws.Rows.{repainted, repaint-all}
use Rattle.window.proofs.Laws.Views.{tabled-facts, some-rows, view_of, session-view, looked-good}
use Rattle.window.proofs.Laws.SentScreen.{sent-shown}
use Rattle.window.proofs.Laws.SendCall.{enough-room}
use Rattle.window.proofs.Laws.SentViews.{cursor_row, cursor_column, changed-on, every-on, view-sendable}
use Rattle.window.proofs.Theorems.Refusals.{opening-done, opening-leaves, key-accepted, key-leaves}
use Rattle.window.proofs.Theorems.Sessions.{opening-view}
use Rattle.window.proofs.Theorems.DemandThree.{picture-printable}
use Rattle.window.proofs.Theorems.KeyDoes.{key-plain, key-outcome}
use Rattle.window.proofs.Theorems.Sending.{sending-room, sending-accepted, sending-leaves, sending-writes}

-- ---- What the routine gives for a good view, some of its rows named

-- After a refusal it is asked for a cursor in row 0, and so it writes nothing.
pub off-screen : (H W first last column : ℕ) (screen buffer : List ℕ)
    → sending H W first last 0 column screen buffer ≡ unsent SIZE 0 buffer
unfolding sending sendable
off-screen H W first last column screen buffer = rw (and-false (rows_on H first last), and-false)

module _ (size : ℕ) (v : View) (good : Good size v) (first last : ℕ) (rows : rows_on v.frame.h first last ≡ true) (buffer : List ℕ) where
  abbrev run : List ℕ
  run = sent_screen v.frame.w first last (cursor_row v) (cursor_column v) (picture v)

  abbrev answer : SendOutcome
  answer = sending v.frame.h v.frame.w first last (cursor_row v) (cursor_column v) (picture v) buffer

  fit : sendable v.frame.h v.frame.w first last (cursor_row v) (cursor_column v) (picture v) ≡ true
  fit = view-sendable size v good first last rows

  -- ROOM is the only refusal.
  pub view-sent : answer.code ≢ ROOM → answer.code ≡ 0
  view-sent room =
      let printed = picture-printable size v good in
      ⊎_elim (λ short. (sending-accepted _ _ _ _ _ _ _ buffer).1 (fit, (printed, (short, tt))))
      (λ long. absurd (room ((sending-room _ _ _ _ _ _ _ buffer).1 ((fit, (printed, tt)), long))))
      (decided (leb (length run) (length buffer)))

  -- The terminal reads what was written.
  pub view-fed : answer.code ≡ 0 → (m : Machine) → length m.shows ≡ v.frame.h * v.frame.w → m.reading ≡ cells
      → feed v.frame.h v.frame.w (take answer.count answer.buffer) m
      ≡ machine (repaint v.frame.w first last (picture v) m.shows) (cursor_row v) (sent_column v.frame.w (cursor_column v))
  view-fed sent m long ready =
      ap (λ run. feed v.frame.h v.frame.w run m) (sending-writes _ _ _ _ _ _ _ _ sent).front
      ∙ sent-shown _ _ _ _ _ _ _ fit (picture-printable size v good) m long ready

-- ---- A buffer with room

module _ (o : Called) (buffer : List ℕ) where
  -- ROOM never comes where the buffer has H (W + 7) + 9 bytes, whatever was called before.
  pub enough-sent : enough o.session.frame.h o.session.frame.w ≤ length buffer → (bytes_after o buffer).code ≢ ROOM
  enough-sent room says-room =
      let (passed, long) = (sending-room _ _ _ _ _ _ _ buffer).0 says-room in
      let most = enough-room _ _ _ _ _ _ o.lent.screen passed.0 in
      clash (le-leb _ _ (le_trans most room)) long

  -- The buffer keeps its length, whatever the answer is.
  pub buffer-kept : length (bytes_after o buffer).buffer ≡ length buffer
  buffer-kept =
      ⊎_elim (λ sent. (sending-writes _ _ _ _ _ _ _ buffer (eqb-true _ _ sent)).long)
      (λ unsent. ap (λ p. length p.buffer) (sending-leaves _ _ _ _ _ _ _ buffer (eqb-false _ _ unsent)))
      (decided (eqb (bytes_after o buffer).code 0))

-- ---- After a key

-- H and W stay, whatever a key call answers.
pub keyed-size : (s : Session) (k : Key) (b : Lent)
    → ((keyed s k b).session.frame.h ≡ s.frame.h) × ((keyed s k b).session.frame.w ≡ s.frame.w)
unfolding keyed finished shown policy
keyed-size s k b = go (tabled s.frame.h s.frame.w b) (is_session s b.stores) (key (T b.stores) quarter k (held s b.stores))
  where
    go : (fit ok : Bool) (outcome : Outcome)
        → let o = cond fit (cond ok (finished s b outcome) (turned_down s b SESSION)) (turned_down s b SIZE) in
        (o.session.frame.h ≡ s.frame.h) × (o.session.frame.w ≡ s.frame.w)
    go false ok o = (refl, refl)
    go true false o = (refl, refl)
    go true true (refused n) = (refl, refl)
    go true true (done did) = (refl, refl)

module _ (s : Session) (k : Key) (b : Lent) (accepts : (keyed s k b).answer.code ≡ 0) where
  -- The view that an accepted key leads to.
  abbrev before : View
  before = view_of s b.stores

  abbrev outcome : Outcome
  outcome = done (pressed k before.plain)

  next-good : Good (T b.stores) (looked before outcome)
  next-good =
      let passed = (key-accepted s k b).0 accepts in
      looked-good (T b.stores) k before (session-view s b passed.0 passed.1.0).good outcome (key-plain s k b accepts)

  -- After an accepted key the routine writes the bytes, or answers ROOM.
  pub key-or-room : (buffer : List ℕ) → (bytes_after (keyed s k b) buffer).code ≢ ROOM → (bytes_after (keyed s k b) buffer).code ≡ 0
  unfolding finished shown policy
  key-or-room buffer =
      subst⁻¹ (λ o. (bytes_after o buffer).code ≢ ROOM → (bytes_after o buffer).code ≡ 0) (key-outcome s k b accepts)
      (view-sent (T b.stores) (looked before outcome) next-good _ _ (changed-on _ _ b.screen _) buffer)

  -- It writes them where the buffer has H (W + 7) + 9 bytes.
  pub key-sent : (buffer : List ℕ) → enough s.frame.h s.frame.w ≤ length buffer → (bytes_after (keyed s k b) buffer).code ≡ 0
  key-sent buffer room =
      let size = keyed-size s k b in
      key-or-room buffer (enough-sent (keyed s k b) buffer (transport (λ i. enough (sym size.0 i) (sym size.1 i) ≤ length buffer) room))

  accepted-shown : (buffer : List ℕ) → (bytes_after (keyed s k b) buffer).code ≡ 0 → (m : Machine) → m.shows ≡ b.screen → m.reading ≡ cells
      → let o = keyed s k b in
      (received o (bytes_after o buffer) m).terminal ≡ machine o.lent.screen o.answer.row (sent_column s.frame.w o.answer.column)
  unfolding finished shown policy
  accepted-shown buffer sent m same ready =
      let next = looked before outcome in
      let long : length b.screen ≡ s.frame.h * s.frame.w = (tabled-facts _ _ b ((key-accepted s k b).0 accepts).0).long in
      let rows = changed-on s.frame.h s.frame.w b.screen (picture next) in
      subst⁻¹
      (λ o. (bytes_after o buffer).code ≡ 0
      → (received o (bytes_after o buffer) m).terminal ≡ machine o.lent.screen o.answer.row (sent_column s.frame.w o.answer.column))
      (key-outcome s k b accepts)
      (λ sent.
      view-fed (T b.stores) next next-good _ _ rows buffer sent m (ap length same ∙ long) ready
      ∙ ap (λ x. machine x (cursor_row next) (sent_column s.frame.w (cursor_column next)))
      (ap (repaint s.frame.w _ _ (picture next)) same ∙ repainted s.frame.h s.frame.w b.screen (picture next) long (length-window _ _)))
      sent

module _ (s : Session) (k : Key) (b : Lent) (buffer : List ℕ) where
  -- After a refused key it writes nothing.
  pub key-unsent : (keyed s k b).answer.code ≢ 0 → bytes_after (keyed s k b) buffer ≡ unsent SIZE 0 buffer
  key-unsent bad = ap (λ o. bytes_after o buffer) (key-leaves s k b bad) ∙ off-screen _ _ _ _ _ _ buffer

  -- So where it answers 0 the key was accepted.
  sent-accepted : (bytes_after (keyed s k b) buffer).code ≡ 0 → (keyed s k b).answer.code ≡ 0
  sent-accepted sent =
      ⊎_elim (λ accepts. eqb-true _ _ accepts)
      (λ refuses. absurd (omega (arith, ap (λ p. p.code) (key-unsent (eqb-false _ _ refuses)))))
      (decided (eqb (keyed s k b).answer.code 0))

  -- One key on any record and stores, and any buffer: where the routine answers 0, a terminal that showed the screen as it was shows the
  -- new screen, with the cursor as reported.
  pub key-shown : (bytes_after (keyed s k b) buffer).code ≡ 0 → (m : Machine) → m.shows ≡ b.screen → m.reading ≡ cells
      → let o = keyed s k b in
      (received o (bytes_after o buffer) m).terminal ≡ machine o.lent.screen o.answer.row (sent_column s.frame.w o.answer.column)
  key-shown sent m same ready = accepted-shown s k b (sent-accepted sent) buffer sent m same ready

-- ---- After an opening

module _ (n H W : ℕ) (b : Lent) (buffer : List ℕ) where
  -- After an accepted one the routine writes the bytes, or answers ROOM.
  pub opening-or-room : (opened n H W b).answer.code ≡ 0 → (bytes_after (opened n H W b) buffer).code ≢ ROOM
      → (bytes_after (opened n H W b) buffer).code ≡ 0
  unfolding opened_text
  opening-or-room accepts =
      let good = opening-view n H W b accepts in
      subst⁻¹ (λ o. (bytes_after o buffer).code ≢ ROOM → (bytes_after o buffer).code ≡ 0) (opening-done n H W b accepts)
      (view-sent (T b.stores) (opening_view n H W b) good 1 H (every-on H (some-rows H W good.tabled)) buffer)

  -- It writes them where the buffer has that many bytes, and after a refused one it writes nothing.
  pub opening-sent : (opened n H W b).answer.code ≡ 0 → enough H W ≤ length buffer → (bytes_after (opened n H W b) buffer).code ≡ 0
  unfolding opened_text
  opening-sent accepts room =
      let o = opening-done n H W b accepts in
      opening-or-room accepts
      (subst⁻¹ (λ o. enough H W ≤ length buffer → (bytes_after o buffer).code ≢ ROOM) o (enough-sent (opened_text n H W b) buffer) room)

  pub opening-unsent : (opened n H W b).answer.code ≢ 0 → bytes_after (opened n H W b) buffer ≡ unsent SIZE 0 buffer
  opening-unsent bad = ap (λ o. bytes_after o buffer) (opening-leaves n H W b bad) ∙ off-screen _ _ _ _ _ _ buffer

  opened-accepted : (bytes_after (opened n H W b) buffer).code ≡ 0 → (opened n H W b).answer.code ≡ 0
  opened-accepted sent =
      ⊎_elim (λ accepts. eqb-true _ _ accepts)
      (λ refuses. absurd (omega (arith, ap (λ p. p.code) (opening-unsent (eqb-false _ _ refuses)))))
      (decided (eqb (opened n H W b).answer.code 0))

  -- Any opening, and any buffer: where the routine answers 0, any terminal of this size shows the screen, with the cursor as reported.
  pub opening-shown : (bytes_after (opened n H W b) buffer).code ≡ 0 → (m : Machine) → length m.shows ≡ H * W → m.reading ≡ cells
      → let o = opened n H W b in
      (received o (bytes_after o buffer) m).terminal ≡ machine o.lent.screen o.answer.row (sent_column W o.answer.column)
  unfolding opened_text
  opening-shown sent m long ready =
      let accepts = opened-accepted sent in
      let v = opening_view n H W b in
      let good = opening-view n H W b accepts in
      let some = some-rows H W good.tabled in
      subst⁻¹
      (λ o. (bytes_after o buffer).code ≡ 0
      → (received o (bytes_after o buffer) m).terminal ≡ machine o.lent.screen o.answer.row (sent_column W o.answer.column))
      (opening-done n H W b accepts)
      (λ sent.
      view-fed (T b.stores) v good 1 H (every-on H some) buffer sent m long ready
      ∙ ap (λ s. machine s (cursor_row v) (sent_column W (cursor_column v))) (repaint-all H W m.shows (picture v) long (length-window _ _) some))
      sent
