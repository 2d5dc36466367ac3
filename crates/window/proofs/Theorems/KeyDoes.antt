-- Demand 2 in full: what a key does on any record and stores. On a session it is the plain editor's key, and otherwise it is refused.
use mathlib.Core.Path.{◌≡◌, refl, sym, ap, ◌∙◌}
use Prim.Native.Nat.{◌-◌}
use Rattle.editor.specs.declared.Key.{Key}
use Rattle.editor.specs.Rules.Plain.{Plain, done}
use Rattle.editor.specs.Rules.Keys.{pressed, key, after}
use Rattle.editor.specs.Rules.Bytes.{quarter}
use Rattle.editor.proofs.Laws.Outcomes.{full-refused, line_refused, accepted}
use Rattle.editor.proofs.Theorems.Refusals.{key-unsound, refused_full, refused-line, done-otherwise}
use Rattle.window.specs.Words.{Session}
use Rattle.window.specs.Rules.Window.{virtual, row_of, column_of, window, visible, policy}
use Rattle.window.specs.Rules.Core.{Lent, T, held, shown, finished, keyed}
use Rattle.window.specs.Wording.Demands.{OnSession, Carried, KeyDoes}
use Rattle.window.proofs.Laws.Window.{policy-visible}
use Rattle.window.proofs.Laws.Views.{tabled-facts}
use Rattle.window.proofs.Theorems.Refusals.{key-size, key-session, key-key, key-full, key-line, key-accepted, key-leaves}
use Rattle.window.proofs.Theorems.Sessions.{session-keyed, key-follows}

module _ (s : Session) (k : Key) (b : Lent) where
  -- The plain state that record and stores hold, if they are a session.
  abbrev state : Plain
  state = held s b.stores

  -- ---- Accepted

  module _ (accepts : (keyed s k b).answer.code ≡ 0) where
    accepted-on : OnSession s b
    accepted-on = let passed = (key-accepted s k b).0 accepts in record { fit = passed.0; ok = passed.1.0 }

    -- The plain editor does the key, and the call's outcome is made from what it did.
    pub key-plain : key (T b.stores) quarter k state ≡ done (pressed k state)
    key-plain =
        let passed = (key-accepted s k b).0 accepts in
        (accepted (T b.stores) quarter k state (pressed k state)).1 (passed.1.1.0, passed.1.1.1.0, passed.1.1.1.1.0, refl)

    pub key-outcome : keyed s k b ≡ finished s b (done (pressed k state))
    key-outcome = session-keyed s k b accepted-on.fit accepted-on.ok ∙ ap (finished s b) key-plain

    key-carried : Carried s k b (keyed s k b)
    unfolding finished shown
    key-carried =
        let d = virtual (pressed k state).state in
        let offsets : (keyed s k b).session.frame ≡ policy s.frame d = ap (λ o. o.session.frame) key-outcome in
        let leads = key-follows s k b accepted-on.fit accepted-on.ok in
        record {
          did = pressed k state;
          plain = key-plain;
          follows = record { fit = leads.fit; ok = leads.session };
          holds = leads.holds ∙ ap (after state) key-plain;
          lengths = ap (λ o. o.session.lengths) key-outcome;
          stores = ap (λ o. o.lent.stores) key-outcome;
          place = ap (λ o. o.answer.place) key-outcome;
          report = ap (λ o. o.answer.report) key-outcome;
          offsets = offsets;
          screen = ap (λ o. o.lent.screen) key-outcome ∙ ap (λ f. window f d) (sym offsets);
          seen = ap (λ f. visible f d) offsets ∙ policy-visible s.frame d (tabled-facts _ _ b accepted-on.fit).rows;
          row = ap (λ o. o.answer.row) key-outcome ∙ ap (λ f. row_of d - f.r) (sym offsets);
          column = ap (λ o. o.answer.column) key-outcome ∙ ap (λ f. column_of d - f.c) (sym offsets);
        }

  -- ---- Which number exactly when

  pub keyed-does : KeyDoes s k b (keyed s k b)
  keyed-does =
      record {
        size = (λ e. ((key-size s k b).0 e).1, λ bad. (key-size s k b).1 (tt, bad));
        session = (
          λ e. let (passed, bad) = (key-session s k b).0 e in (passed.0, bad),
          λ (fit, bad). (key-session s k b).1 ((fit, tt), bad),
        );
        unsound = (
          λ e. let (passed, bad) = (key-key s k b).0 e in (record { fit = passed.0; ok = passed.1.0 }, (key-unsound state.mode k).0 bad),
          λ (on, bad). (key-key s k b).1 ((on.fit, (on.ok, tt)), (key-unsound state.mode k).1 bad),
        );
        full = (
          λ e.
              let (passed, long) = (key-full s k b).0 e in
              let refused-so = (full-refused (T b.stores) quarter k state).1 (passed.1.1.0, long) in
              let (sound, exceeds) = (refused_full (T b.stores) quarter k state).0 refused-so in
              (record { fit = passed.0; ok = passed.1.0 }, sound, exceeds),
          λ (on, sound, exceeds).
              let refused-so = (refused_full (T b.stores) quarter k state).1 (sound, exceeds) in
              let (passed, long) = (full-refused (T b.stores) quarter k state).0 refused-so in
              (key-full s k b).1 ((on.fit, (on.ok, (passed, tt))), long),
        );
        line = (
          λ e.
              let (passed, long) = (key-line s k b).0 e in
              let refused-so = (line_refused (T b.stores) quarter k state).1 (passed.1.1.0, passed.1.1.1.0, long) in
              let (sound, within, longer) = (refused-line (T b.stores) quarter k state).0 refused-so in
              (record { fit = passed.0; ok = passed.1.0 }, sound, within, longer),
          λ (on, sound, within, longer).
              let refused-so = (refused-line (T b.stores) quarter k state).1 (sound, within, longer) in
              let (passed, room, long) = (line_refused (T b.stores) quarter k state).0 refused-so in
              (key-line s k b).1 ((on.fit, (on.ok, (passed, (room, tt)))), long),
        );
        accepted = (
          λ e.
              let (sound, within, short) = (done-otherwise (T b.stores) quarter k state).0 (key-plain e) in
              (accepted-on e, sound, within, short),
          λ (on, sound, within, short).
              let done-so = (done-otherwise (T b.stores) quarter k state).1 (sound, within, short) in
              let (passed, room, lines, same) = (accepted (T b.stores) quarter k state (pressed k state)).0 done-so in
              (key-accepted s k b).1 (on.fit, (on.ok, (passed, (room, (lines, tt))))),
        );
        refused = key-leaves s k b;
        carried = key-carried;
      }
