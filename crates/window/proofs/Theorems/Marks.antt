-- Mark and held text of sessions (02, M-101): the mark lies within the document and of the held pair one half is empty, in every session and after
-- any keys; and every session comes back from the host's numbers as it was.
use Rattle.std.proofs.Common.{Option, Some, None}
use mathlib.Core.Path.{◌≡◌, sym, ap, subst⁻¹, transport, ◌∙◌}
use mathlib.Core.Logic.{⊎_elim}
use mathlib.Core.Bool.{true, false≢true}
use mathlib.Core.List.{List}
use Prim.Native.Nat.{ℕ, ◌+◌, ◌≤◌}
use native.Mathlib.Omega.{arith}
use borrow.Author.Tests.{leb-true}
use Rattle.gap.proofs.Laws.Tests.{decided, clash}
use Rattle.editor.specs.Rules.Marks.{mark_within}
use Rattle.editor.specs.Rules.Bytes.{quarter, one_half, holding_sizes}
use Rattle.editor.proofs.Laws.Session.{passed}
use Rattle.editor.proofs.Laws.Fitting.{fitting}
use Rattle.window.specs.Words.{Session, Key}
use Rattle.window.specs.Rules.Core.{Lent, T, tabled, is_session, opened_text, opened, keyed}
use Rattle.window.specs.Rules.Terminal.{opened_bench, typed, opening_view, viewed, picture, record_of, stores_with}
use Rattle.window.specs.Rules.Host.{no_mark, session_from, record_from}
use Rattle.window.specs.Wording.Demands.{OnSession}
use Rattle.window.proofs.Laws.Window.{length-window}
use Rattle.window.proofs.Laws.Views.{view-tabled, view-session}
use Rattle.window.proofs.Laws.KeyCall.{session-sound}
use Rattle.window.proofs.Theorems.Refusals.{opening-done, key-accepted, key-leaves}
use Rattle.window.proofs.Theorems.Sessions.{opening-view, opened-tabled, opened-session, key-follows}
use Rattle.window.proofs.Theorems.DemandThree.{keys-good, keys-showing, opening-showing}
use Rattle.window.proofs.Theorems.OverAndBack.{session-over}

-- ---- Sessions

at_same : {m n : ℕ} → Some m ≡ Some n → m ≡ n
at_same e = cc

below_none : (mark : Option ℕ) (n : ℕ) → n ≤ 65536 → mark_within n mark ≡ true → ¬ (mark ≡ Some no_mark)
unfolding no_mark
below_none None n low within e = false≢true cc
below_none (Some m) n low within e = omega (arith, leb-true m n within, at_same e)

module _ (s : Session) (b : Lent) (on : OnSession s b) where
  -- A session's mark lies within the document, whose ends are positions too, and of its held pair one half is empty.
  pub mark-within : mark_within (s.lengths.main.l + s.lengths.main.r) s.lengths.mark ≡ true
  mark-within = (passed quarter s.lengths b.stores (session-sound s b on.fit on.ok).ok).mark

  pub held-half : one_half (holding_sizes s.lengths) ≡ true
  held-half = (passed quarter s.lengths b.stores (session-sound s b on.fit on.ok).ok).held_half

  -- So its mark is not at the largest size, which says that there is none.
  pub mark-numbered : ¬ (s.lengths.mark ≡ Some no_mark)
  mark-numbered =
      let fits = fitting quarter s.lengths b.stores (session-sound s b on.fit on.ok) in
      below_none s.lengths.mark (s.lengths.main.l + s.lengths.main.r) (omega (arith, fits.document, fits.high)) mark-within

  -- And it comes back from the host's numbers as it was.
  pub session-comes-back : session_from (record_from s) ≡ s
  session-comes-back = (session-over s).1 mark-numbered

-- ---- From call to call

module _ (n H W : ℕ) (b : Lent) (accepts : (opened n H W b).answer.code ≡ 0) where
  opening_on : OnSession (opened n H W b).session (opened n H W b).lent
  unfolding opened_text
  opening_on =
      let e = opening-done n H W b accepts in
      record {
        fit = ap (λ o. tabled o.session.frame.h o.session.frame.w (opened n H W b).lent) e ∙ opened-tabled n H W b accepts;
        ok = opened-session n H W b accepts;
      }

  pub opening-numbered : ¬ ((opened n H W b).session.lengths.mark ≡ Some no_mark)
  opening-numbered = mark-numbered (opened n H W b).session (opened n H W b).lent opening_on

  -- After a good opening and any keys, refused ones skipped, record and stores are a session, so its mark lies within the document.
  reached-on : (ks : List Key) → let o = (typed ks (opened_bench n H W b)).called in OnSession o.session o.lent
  reached-on ks =
      let size = T b.stores in
      let start = opening_view n H W b in
      let good = opening-view n H W b accepts in
      let shows = keys-showing size ks start (opened_bench n H W b) good (opening-showing n H W b accepts) in
      let v = viewed size ks start in
      let here = keys-good size ks start good in
      let on : OnSession (record_of v) (stores_with size v (picture v)) =
      record { fit = view-tabled size v here (picture v) (length-window _ _); ok = view-session size v here (picture v) (length-window _ _) } in
      transport (λ i. OnSession (sym shows.session i) (sym shows.lent i)) on

  pub mark-reached : (ks : List Key) → let o = (typed ks (opened_bench n H W b)).called in
      mark_within (o.session.lengths.main.l + o.session.lengths.main.r) o.session.lengths.mark ≡ true
  mark-reached ks = let o = (typed ks (opened_bench n H W b)).called in mark-within o.session o.lent (reached-on ks)

module _ (s : Session) (k : Key) (b : Lent) where
  refused-numbered : ¬ (s.lengths.mark ≡ Some no_mark) → ((keyed s k b).answer.code ≡ 0 → ⊥) → ¬ ((keyed s k b).session.lengths.mark ≡ Some no_mark)
  refused-numbered other bad = subst⁻¹ (λ o. ¬ (o.session.lengths.mark ≡ Some no_mark)) (key-leaves s k b bad) other

  pub key-numbered : ¬ (s.lengths.mark ≡ Some no_mark) → ¬ ((keyed s k b).session.lengths.mark ≡ Some no_mark)
  key-numbered other =
      ⊎_elim
      (λ fit.
      ⊎_elim
      (λ ok.
      let leads = key-follows s k b fit ok in
      mark-numbered (keyed s k b).session (keyed s k b).lent (record { fit = leads.fit; ok = leads.session }))
      (λ none. refused-numbered other (λ e. clash ((key-accepted s k b).0 e).1.0 none))
      (decided (is_session s b.stores)))
      (λ untabled. refused-numbered other (λ e. clash ((key-accepted s k b).0 e).0 untabled))
      (decided (tabled s.frame.h s.frame.w b))
