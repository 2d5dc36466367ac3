-- Demand 3 on a line: a simple terminal that is sent the routine's bytes after each call shows the window of the plain document
-- after the same keys, refused ones skipped, with its cursor; for every buffer in which the bytes have room. (02, M-100: proved.)
use mathlib.Core.Path.{◌≡◌, refl, sym, ap, ap₂, subst⁻¹, transport, ◌∙◌}
use mathlib.Core.Logic.{◌≢◌}
use mathlib.Core.List.{List, [], ◌∷◌}
use Prim.Native.Nat.{ℕ, ◌*◌, ◌≤◌}
use native.Mathlib.Omega.{arith}
use lib.ListN.{length, take}
use Rattle.editor.specs.declared.Key.{Key}
use Rattle.editor.specs.Rules.Refusals.{ROOM}
use Rattle.editor.specs.Rules.Plain.{Outcome, refused, done, opening}
use Rattle.editor.specs.Rules.Keys.{key, keys}
use Rattle.editor.specs.Rules.Bytes.{quarter}
use Rattle.window.specs.Rules.Window.{policy}
use Rattle.window.specs.Rules.Core.{Lent, Called, T, lent_of, opened_text, opened, finished, shown, keyed}
use Rattle.window.specs.Rules.Terminal.{View, opening_view, looked, viewed, picture, Good, record_of, stores_with}
use Rattle.window.specs.Rules.Sequences.{sent_column}
use Rattle.window.specs.Rules.Machine.{Machine, cells, machine, feed, Line, bytes_after, received, opened_line, struck_line, typed_line}
use Rattle.window.specs.Rules.Machine.{AllSent, showing, enough, Ready, OnLine}
use Rattle.window.proofs.Laws.Window.{length-window}
use Rattle.window.proofs.Laws.Rows.{repainted}
use Rattle.window.proofs.Laws.Views.{view-keyed, view-size, looked-good}
use Rattle.window.proofs.Laws.SentViews.{cursor_row, cursor_column, changed-on}
use Rattle.window.proofs.Theorems.Refusals.{opening-done}
use Rattle.window.proofs.Theorems.Sessions.{opening-view}
use Rattle.window.proofs.Theorems.DemandThree.{key-good, viewed-plain}
use Rattle.window.proofs.Theorems.AfterCalls.{off-screen, view-sent, view-fed, enough-sent, buffer-kept, keyed-size, opening-or-room, opening-shown}

-- ---- Keys on a line

abbrev line_after : Called → List ℕ → Machine → Line
line_after o buffer m = received o (bytes_after o buffer) m

-- One key, from a good view.
module _ (size : ℕ) (k : Key) (v : View) (good : Good size v) where
  outcome-line : (o : Outcome) → key size quarter k v.plain ≡ o → (buffer : List ℕ)
      → (bytes_after (finished (record_of v) (stores_with size v (picture v)) o) buffer).code ≢ ROOM
      → OnLine size (looked v o) (line_after (finished (record_of v) (stores_with size v (picture v)) o) buffer (showing v))
  unfolding finished shown policy feed
  outcome-line (refused n) e buffer room =
      let none = off-screen v.frame.h v.frame.w 0 0 0 (picture v) buffer in
      record {
        session = refl;
        lent = refl;
        terminal = ap (λ p. feed v.frame.h v.frame.w (take p.count p.buffer) (showing v)) none;
      }
  outcome-line (done did) e buffer room =
      let next = looked v (done did) in
      let good-next = looked-good size k v good (done did) e in
      let rows = changed-on v.frame.h v.frame.w (picture v) (picture next) in
      let sent = view-sent size next good-next _ _ rows buffer room in
      record {
        session = refl;
        lent = ap (λ t. lent_of t did.state next.frame) (view-size size v good (picture v) (length-window _ _));
        terminal =
            view-fed size next good-next _ _ rows buffer sent (showing v) (length-window _ _) refl
            ∙ ap (λ s. machine s (cursor_row next) (sent_column v.frame.w (cursor_column next)))
            (repainted v.frame.h v.frame.w (picture v) (picture next) (length-window _ _) (length-window _ _));
      }

  pub key-line : (at : Line) → OnLine size v at
      → (bytes_after (keyed at.called.session k at.called.lent) at.buffer).code ≢ ROOM
      → OnLine size (looked v (key size quarter k v.plain)) (struck_line k at)
  unfolding struck_line
  key-line at on room =
      let next = looked v (key size quarter k v.plain) in
      let o = ap₂ (λ s b. keyed s k b) on.session on.lent ∙ view-keyed size v good (picture v) (length-window _ _) k in
      subst⁻¹ (OnLine size next) (ap₂ (λ c m. line_after c at.buffer m) o on.terminal)
      (outcome-line (key size quarter k v.plain) refl at.buffer (λ e. room (ap (λ c. (bytes_after c at.buffer).code) o ∙ e)))

-- Any list of keys, from any good view that the terminal shows.
pub keys-line : (size : ℕ) (ks : List Key) (v : View) (at : Line) → Good size v → OnLine size v at → AllSent ks at
    → OnLine size (viewed size ks v) (typed_line ks at)
unfolding viewed typed_line
keys-line size [] v at good on sent = on
keys-line size (k ∷ ks) v at good on sent =
    keys-line size ks _ (struck_line k at) (key-good size k v good) (key-line size k v good at on sent.0) sent.1

-- After a good open, any list of keys.
module _ (n H W : ℕ) (b : Lent) (accepts : (opened n H W b).answer.code ≡ 0) (buffer : List ℕ) (m : Machine) where
  opening-line : length m.shows ≡ H * W → m.reading ≡ cells → (bytes_after (opened n H W b) buffer).code ≢ ROOM
      → OnLine (T b.stores) (opening_view n H W b) (opened_line n H W b buffer m)
  unfolding opened_line opened_text
  opening-line long ready room =
      let shown = opening-shown n H W b buffer (opening-or-room n H W b buffer accepts room) m long ready in
      subst⁻¹
      (λ o. (received o (bytes_after o buffer) m).terminal ≡ machine o.lent.screen o.answer.row (sent_column W o.answer.column)
      → OnLine (T b.stores) (opening_view n H W b) (line_after o buffer m))
      (opening-done n H W b accepts) (λ shown. record { session = refl; lent = refl; terminal = shown }) shown

  -- The terminal shows the window of the plain document after the same keys, and its cursor; and that document is the plain editor's.
  pub demand-three-sent : length m.shows ≡ H * W → m.reading ≡ cells → (bytes_after (opened n H W b) buffer).code ≢ ROOM
      → (ks : List Key) → AllSent ks (opened_line n H W b buffer m)
      → ((typed_line ks (opened_line n H W b buffer m)).terminal ≡ showing (viewed (T b.stores) ks (opening_view n H W b)))
      × ((viewed (T b.stores) ks (opening_view n H W b)).plain ≡ keys (T b.stores) quarter ks (opening (take n b.stores.text)))
  demand-three-sent long ready room ks sent = (
    (keys-line (T b.stores) ks (opening_view n H W b) (opened_line n H W b buffer m) (opening-view n H W b accepts)
        (opening-line long ready room) sent).terminal,
    viewed-plain (T b.stores) ks (opening_view n H W b),
  )

-- ---- A buffer with room

-- The routine never answers ROOM in a list of keys where the buffer has H (W + 7) + 9 bytes.
pub keys-sent : (ks : List Key) (at : Line)
    → enough at.called.session.frame.h at.called.session.frame.w ≤ length at.buffer → AllSent ks at
unfolding struck_line
keys-sent [] at room = tt
keys-sent (k ∷ ks) at room =
    let o = keyed at.called.session k at.called.lent in
    let size = keyed-size at.called.session k at.called.lent in
    let still : enough o.session.frame.h o.session.frame.w ≤ length at.buffer =
    transport (λ i. enough (sym size.0 i) (sym size.1 i) ≤ length at.buffer) room in
    (enough-sent o at.buffer still, keys-sent ks (struck_line k at) (omega (arith, buffer-kept o at.buffer)))

-- So there the terminal shows it after any list of keys.
module _ (n H W : ℕ) (b : Lent) (accepts : (opened n H W b).answer.code ≡ 0) (buffer : List ℕ) (m : Machine) (ready : Ready H W buffer m) where
  pub demand-three-line : (ks : List Key)
      → ((typed_line ks (opened_line n H W b buffer m)).terminal ≡ showing (viewed (T b.stores) ks (opening_view n H W b)))
      × ((viewed (T b.stores) ks (opening_view n H W b)).plain ≡ keys (T b.stores) quarter ks (opening (take n b.stores.text)))
  unfolding opened_line opened_text
  demand-three-line ks =
      let o = opened n H W b in
      let room : enough o.session.frame.h o.session.frame.w ≤ length buffer =
      subst⁻¹ (λ o. enough o.session.frame.h o.session.frame.w ≤ length buffer) (opening-done n H W b accepts) ready.room in
      demand-three-sent n H W b accepts buffer m ready.size ready.reading (enough-sent o buffer room) ks
      (keys-sent ks (opened_line n H W b buffer m) (omega (arith, buffer-kept o buffer)))
