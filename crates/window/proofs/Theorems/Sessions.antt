-- Sessions: an opened text is one, every key leads from one to one, and on every session the key on bytes is the key on the
-- plain state.
use mathlib.Core.Path.{◌≡◌, refl, ap, subst⁻¹, ◌∙◌}
use mathlib.Core.Bool.{true}
use Prim.Native.Nat.{ℕ}
use lib.ListN.{take}
use borrow.Author.Tests.{leb-true}
use Rattle.editor.specs.declared.Key.{Key}
use Rattle.editor.specs.Rules.Plain.{Outcome, refused, done}
use Rattle.editor.specs.Rules.Keys.{key, after}
use Rattle.editor.specs.Rules.Bytes.{quarter}
use Rattle.editor.proofs.Theorems.Sessions.{opening-sound}
use Rattle.window.specs.Words.{Session}
use Rattle.window.specs.Rules.Window.{virtual_in, virtual, policy}
use Rattle.window.specs.Rules.Core.{Lent, T, tabled, is_session, held, opened_text, opened, shown, finished, keyed}
use Rattle.window.specs.Rules.Terminal.{View, opening_view, looked, picture, Good}
use Rattle.window.specs.Wording.Promise.{Follows}
use Rattle.window.proofs.Laws.Views as law
use Rattle.window.proofs.Laws.Views.{start_seen, tabled-facts, view_of, session-view, view-held, view-tabled, view-session, looked-good}
use Rattle.window.proofs.Theorems.Refusals.{opening-accepted, opening-done}
use Rattle.window.proofs.Laws.Window.{length-window}

-- An opened text is a session.
module _ (n H W : ℕ) (b : Lent) (accepts : (opened n H W b).answer.code ≡ 0) where
  pub opening-view : Good (T b.stores) (opening_view n H W b)
  unfolding virtual_in
  opening-view =
      let passed = (opening-accepted n H W b).0 accepts in
      let facts = tabled-facts H W b passed.0 in
      let short = leb-true n (T b.stores) passed.1.0 in
      record {
        low = facts.low;
        high = facts.high;
        sound = opening-sound (T b.stores) quarter n b.stores.text short passed.1.1.0 passed.1.1.1.0;
        tabled = facts.frame;
        seen = start_seen H W (take n b.stores.text) facts.rows;
      }

  abbrev view : View
  view = opening_view n H W b

  pub opened-tabled : tabled H W (opened n H W b).lent ≡ true
  unfolding opened_text
  opened-tabled =
      ap (λ o. tabled H W o.lent) (opening-done n H W b accepts)
      ∙ view-tabled (T b.stores) view opening-view (picture view) (length-window _ _)

  pub opened-session : is_session (opened n H W b).session (opened n H W b).lent.stores ≡ true
  unfolding opened_text
  opened-session =
      ap (λ o. is_session o.session o.lent.stores) (opening-done n H W b accepts)
      ∙ view-session (T b.stores) view opening-view (picture view) (length-window _ _)

module _ (s : Session) (k : Key) (b : Lent) (fit : tabled s.frame.h s.frame.w b ≡ true) (ok : is_session s b.stores ≡ true) where
  -- On every session the key on bytes is the key on the plain state.
  pub session-keyed : keyed s k b ≡ finished s b (key (T b.stores) quarter k (held s b.stores))
  session-keyed = law.session-keyed s k b fit ok

  outcome-follows : (o : Outcome) → key (T b.stores) quarter k (held s b.stores) ≡ o → Follows (finished s b o) (after (held s b.stores) o)
  unfolding finished shown policy
  outcome-follows (refused n) e = record { fit = fit; session = ok; holds = refl }
  outcome-follows (done did) e =
      let good = looked-good (T b.stores) k (view_of s b.stores) (session-view s b fit ok).good (done did) e in
      let v = looked (view_of s b.stores) (done did) in
      let long = length-window v.frame (virtual v.plain) in
      record {
        fit = view-tabled (T b.stores) v good (picture v) long;
        session = view-session (T b.stores) v good (picture v) long;
        holds = view-held (T b.stores) v good (picture v) long;
      }

  -- Every key, accepted or refused, leads from a session to a session, which holds what the plain editor says.
  pub key-follows : Follows (keyed s k b) (after (held s b.stores) (key (T b.stores) quarter k (held s b.stores)))
  key-follows =
      subst⁻¹ (λ o. Follows o (after (held s b.stores) (key (T b.stores) quarter k (held s b.stores)))) session-keyed
      (outcome-follows (key (T b.stores) quarter k (held s b.stores)) refl)
