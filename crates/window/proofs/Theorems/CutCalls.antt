-- MARK, CUT and PASTE from what the calls promise (02, M-101): in QUOTED all three get KEY; in MAIN, MARK and CUT are always accepted; CUT, then
-- PASTE at once, restores text and cursor.
use Rattle.std.specs.Prelude.{true, Some}
use mathlib.Core.Path.{◌≡◌, refl, sym, ap, ap₂, subst⁻¹, ◌∙◌}
use mathlib.Core.Logic.{◌↔◌}
use Prim.Native.Nat.{ℕ}
use native.Mathlib.Omega.{arith}
use Rattle.gap.proofs.Laws.Tests.{clash}
use Rattle.editor.specs.Rules.Refusals.{KEY, LINE}
use Rattle.editor.specs.Rules.Plain.{Plain, quiet, reporting, done}
use Rattle.editor.specs.Rules.LongLines.{longest_line, readable}
use Rattle.editor.specs.Rules.Keys.{sound_key, marked_here, acted, pressed, fits, key, after, Unsound, mark_in_quoted, cut_in_quoted, paste_in_quoted}
use Rattle.editor.specs.Rules.Keys.{Exceeds, LongLine}
use Rattle.editor.specs.Rules.Bytes.{quarter}
use Rattle.editor.proofs.Laws.States.{sound-fits}
use Rattle.editor.proofs.Laws.MarkedStates.{marked-sound, cut_fits}
use Rattle.editor.proofs.Laws.Keeps.{texts-kept, fits-acted}
use Rattle.editor.proofs.Laws.Room.{fits-within, keeps-within}
use Rattle.editor.proofs.Laws.LongLines.{readable-within}
use Rattle.editor.proofs.Laws.Outcomes.{accepted}
use Rattle.editor.proofs.Theorems.Refusals.{key-unsound}
use Rattle.editor.proofs.Theorems.Cuts.{leaving, cut-deletes, cut-then-paste}
use Rattle.window.specs.Words.{Main, Quoted, Session, Key, Mark, Cut, Paste}
use Rattle.window.specs.Rules.Core.{Lent, Called, T, held, turned_down, finished, shown}
use Rattle.window.specs.Wording.Promise.{KeyPromise}
use Rattle.window.specs.Wording.Demands.{OnSession, Carried}
use Rattle.window.proofs.Laws.Views.{session-view}
use Rattle.window.proofs.Theorems.Sessions.{session-keyed}
use Rattle.window.proofs.Theorems.Promises.{key-does, key-holds}
use Rattle.window.proofs.Theorems.RecallCalls.{sound, carried, same_size}

-- ---- In QUOTED: KEY, and everything as it was

module _ (s : Session) (b : Lent) (on : OnSession s b) (o : Called) where
  unsound-refused : (k : Key) → KeyPromise s k b o → Unsound (held s b.stores).mode k → o ≡ turned_down s b KEY
  unsound-refused k promise bad =
      let does = key-does s k b o promise in
      let code = does.unsound.1 (on, bad) in
      does.refused (λ e. absurd (omega (arith, code, e))) ∙ ap (turned_down s b) code

  module _ (quoted : (held s b.stores).mode ≡ Quoted) where
    pub mark-in-quoted : KeyPromise s Mark b o → o ≡ turned_down s b KEY
    mark-in-quoted promise = unsound-refused Mark promise (subst⁻¹ (λ mode. Unsound mode Mark) quoted mark_in_quoted)

    pub cut-in-quoted : KeyPromise s Cut b o → o ≡ turned_down s b KEY
    cut-in-quoted promise = unsound-refused Cut promise (subst⁻¹ (λ mode. Unsound mode Cut) quoted cut_in_quoted)

    pub paste-in-quoted : KeyPromise s Paste b o → o ≡ turned_down s b KEY
    paste-in-quoted promise = unsound-refused Paste promise (subst⁻¹ (λ mode. Unsound mode Paste) quoted paste_in_quoted)

  -- ---- In MAIN: neither MARK nor CUT is refused, whatever the mark and however full the stores

  main-sound : (k : Key) → sound_key Main k ≡ true → (held s b.stores).mode ≡ Main → ¬ Unsound (held s b.stores).mode k
  main-sound k ok main = subst⁻¹ (λ mode. ¬ Unsound mode k) main (λ bad. clash ok ((key-unsound Main k).1 bad))

  module _ (main : (held s b.stores).mode ≡ Main) where
    pub mark-accepted : KeyPromise s Mark b o → o.answer.code ≡ 0
    unfolding sound_key acted marked_here
    mark-accepted promise =
        let p = held s b.stores in
        let texts = (session-view s b on.fit on.ok).good.sound.texts in
        let marked = texts-kept (T b.stores) quarter Mark p (marked-sound (T b.stores) quarter _ p texts) in
        (key-does s Mark b o promise).accepted.1 (
          on,
          main-sound Mark refl main,
          keeps-within (T b.stores) quarter (pressed Mark p).state marked,
          (readable-within (pressed Mark p).state).0 marked.lines,
        )

    -- CUT is accepted unless the line that it joins is too long. (02, M-106.)
    cut-within : ¬ Exceeds (T b.stores) quarter (pressed Cut (held s b.stores)).state
    unfolding acted
    cut-within =
        let p = held s b.stores in
        let texts = (session-view s b on.fit on.ok).good.sound.texts in
        (fits-within (T b.stores) quarter (pressed Cut p).state).0
        (fits-acted (T b.stores) quarter Cut p ∙ cut_fits (T b.stores) quarter p.mark p texts)

    pub cut-accepted : KeyPromise s Cut b o → (o.answer.code ≡ 0) ↔ (¬ LongLine (pressed Cut (held s b.stores)).state)
    unfolding sound_key
    cut-accepted promise = (
      λ e. ((key-does s Cut b o promise).accepted.0 e).3,
      λ short. (key-does s Cut b o promise).accepted.1 (on, main-sound Cut refl main, cut-within, short),
    )

    pub cut-long : KeyPromise s Cut b o → (o.answer.code ≡ LINE) ↔ LongLine (pressed Cut (held s b.stores)).state
    unfolding sound_key
    cut-long promise = (
      λ e. ((key-does s Cut b o promise).line.0 e).3,
      λ long. (key-does s Cut b o promise).line.1 (on, main-sound Cut refl main, cut-within, long),
    )

-- ---- CUT with a mark, then PASTE at once

module _ (s : Session) (b : Lent) (o : Called) (promise : KeyPromise s Cut b o) (accepts : o.answer.code ≡ 0) (m : ℕ)
    (marked : (held s b.stores).mark ≡ Some m) (next : Called) (pastes : KeyPromise o.session Paste o.lent next) where
  abbrev start : Plain
  start = held s b.stores

  abbrev between : Plain
  between = held o.session o.lent.stores

  taken : Carried s Cut b o
  taken = carried s Cut b o promise accepts

  -- The plain editor's PASTE leads back, with what CUT took still held, and without a mark.
  back : key (T b.stores) quarter Paste taken.did.state ≡ done (reporting quiet (leaving start.main.text taken.did.state.held start))
  unfolding sound_key fits
  back =
      let size = T b.stores in
      let (ok, room, lines, same) = (accepted size quarter Cut start taken.did).0 taken.plain in
      let q = (pressed Cut start).state in
      let cut = cut-deletes start m marked in
      let mode : q.mode ≡ start.mode = ap (λ d. d.state.mode) cut in
      let held-so = ap (λ d. d.state.held) cut in
      let restores = cut-then-paste start m marked ∙ ap (λ h. reporting quiet (leaving start.main.text h start)) (sym held-so) in
      let fit = ap (λ d. fits size quarter d.state) restores ∙ sound-fits size quarter start (sound s Cut b o promise accepts).texts in
      let short = ap (λ d. readable longest_line d.state) restores ∙ (sound s Cut b o promise accepts).texts.lines in
      rw (← same)
      ((accepted size quarter Paste q (reporting quiet (leaving start.main.text q.held start))).1
      (ap (λ mode. sound_key mode Paste) mode ∙ ok, fit, short, restores))

  -- PASTE is accepted; text and cursor are as they were, and so is all else but for what is held and the mark.
  pub paste-restored : (next.answer.code ≡ 0) × (held next.session next.lent.stores ≡ leaving start.main.text between.held start)
  unfolding finished shown
  paste-restored =
      let said = ap₂ (λ t p. key t quarter Paste p) (same_size s Cut b o promise accepts) taken.holds ∙ back in
      let fit = taken.follows.fit in
      let ok = taken.follows.ok in (
        ap (λ o. o.answer.code) (pastes ∙ (session-keyed o.session Paste o.lent fit ok ∙ ap (finished o.session o.lent) said)),
        key-holds o.session Paste o.lent next pastes fit ok
            ∙ (ap (after between) said ∙ ap (λ p. leaving start.main.text p.held start) (sym taken.holds)),
      )
