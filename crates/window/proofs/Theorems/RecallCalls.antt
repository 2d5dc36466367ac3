-- RECALL straight after a deletion, from what the two calls promise: on any session, in MAIN and in QUOTED. (01, recall text. 02, M-103.)
use mathlib.Core.Path.{◌≡◌, sym, ap, ap₂, subst, transport, ◌∙◌}
use mathlib.Core.Logic.{◌↔◌}
use mathlib.Core.Bool.{true}
use Prim.Native.Nat.{ℕ, ◌≤◌}
use Rattle.gap.proofs.Laws.Layout.{length-gapped}
use Rattle.editor.specs.Rules.Refusals.{FULL, LINE}
use Rattle.editor.specs.Rules.Plain.{Plain, quiet, reporting}
use Rattle.editor.specs.Rules.Keys.{side_of, with_mark, pressed, key, after, Exceeds, LongLine}
use Rattle.editor.specs.Rules.Bytes.{quarter, lengths_of, stores_of, SoundPlain}
use Rattle.editor.specs.Wording.Recalling.{with_recall, recall_put_in}
use Rattle.editor.proofs.Laws.Outcomes.{accepted}
use Rattle.editor.proofs.Theorems.Sessions.{key-keeps}
use Rattle.editor.proofs.Theorems.Recall.{function-rings, recall-restores, recall-does, recall-sound}
use Rattle.window.specs.Words.{Direction, Action, Delete, Place, Key, Function, Recall, Session}
use Rattle.window.specs.Rules.Core.{Lent, Called, T, held, finished, shown}
use Rattle.window.specs.Wording.Promise.{KeyPromise}
use Rattle.window.specs.Wording.Demands.{OnSession, Carried, KeyDoes}
use Rattle.window.proofs.Laws.Views.{session-view}
use Rattle.window.proofs.Theorems.Sessions.{session-keyed}
use Rattle.window.proofs.Theorems.Promises.{key-does, key-holds}

-- An accepted key, on whatever session.
module _ (s : Session) (k : Key) (b : Lent) (o : Called) (promise : KeyPromise s k b o) (accepts : o.answer.code ≡ 0) where
  abbrev before : Plain
  before = held s b.stores

  on : OnSession s b
  on = ((key-does s k b o promise).accepted.0 accepts).0

  pub sound : SoundPlain (T b.stores) quarter before
  sound = (session-view s b on.fit on.ok).good.sound

  pub carried : Carried s k b o
  carried = (key-does s k b o promise).carried accepts

  pub same_size : T o.lent.stores ≡ T b.stores
  unfolding stores_of
  same_size =
      let kept = key-keeps (T b.stores) quarter k before carried.did sound carried.plain in
      ap T carried.stores ∙ length-gapped (T b.stores) carried.did.state.main.text kept.texts.text.fits

module _ (s : Session) (b : Lent) (action : Action) (way : Direction) (place : Place) (o : Called)
    (promise : KeyPromise s (Function action way place) b o) (accepts : o.answer.code ≡ 0) where
  abbrev did-it : Carried s (Function action way place) b o
  did-it = carried s (Function action way place) b o promise accepts

  -- A move or deletion with the bell: text, recall text and all else that record and stores hold stay as they were.
  pub bell-holds : o.answer.report.bell ≡ true → held o.session o.lent.stores ≡ held s b.stores
  bell-holds bell =
      did-it.holds
      ∙ function-rings (T b.stores) quarter action way place (held s b.stores) did-it.did did-it.plain
      (ap (λ r. r.bell) (sym did-it.report) ∙ bell)

  -- So do the lengths and the bytes.
  pub bell-keeps : o.answer.report.bell ≡ true → (o.session.lengths ≡ s.lengths) × (o.lent.stores ≡ b.stores)
  bell-keeps bell =
      let here = on s (Function action way place) b o promise accepts in
      let same = sym did-it.holds ∙ bell-holds bell in
      let view = session-view s b here.fit here.ok in (
        did-it.lengths ∙ (ap lengths_of same ∙ ap (λ s. s.lengths) view.session),
        did-it.stores ∙ (ap (stores_of (T b.stores) quarter) same ∙ ap (λ b. b.stores) view.lent),
      )

module _ (s : Session) (b : Lent) (way : Direction) (place : Place) (o : Called) (promise : KeyPromise s (Function Delete way place) b o)
    (accepts : o.answer.code ≡ 0) (next : Called) (recalls : KeyPromise o.session Recall o.lent next) where
  abbrev size : ℕ
  size = T b.stores

  abbrev start : Plain
  start = held s b.stores

  abbrev between : Plain
  between = held o.session o.lent.stores

  deleted : Carried s (Function Delete way place) b o
  deleted = carried s (Function Delete way place) b o promise accepts

  same_length : T o.lent.stores ≡ size
  same_length = same_size s (Function Delete way place) b o promise accepts

  does : KeyDoes o.session Recall o.lent next
  does = key-does o.session Recall o.lent next recalls

  -- ---- A deletion that reported steps above 0: RECALL is accepted, and gives text and cursor back; the mark goes through both changes

  pub recall-restored : 1 ≤ o.answer.report.steps
      → (next.answer.code ≡ 0)
      × (held next.session next.lent.stores
      ≡ with_mark (recall_put_in between).mark (with_recall (side_of start.mode between).recall start))
  unfolding finished shown
  recall-restored some =
      let restores = recall-restores size quarter way place start deleted.did deleted.plain (sound s (Function Delete way place) b o promise accepts)
      (subst (λ r. 1 ≤ r.steps) deleted.report some) in
      let said = ap₂ (λ t p. key t quarter Recall p) same_length deleted.holds ∙ restores in
      let fit = deleted.follows.fit in
      let ok = deleted.follows.ok in (
        ap (λ o. o.answer.code) (recalls ∙ (session-keyed o.session Recall o.lent fit ok ∙ ap (finished o.session o.lent) said)),
        key-holds o.session Recall o.lent next recalls fit ok
            ∙ (ap (after between) said ∙ ap (λ p. with_mark (recall_put_in p).mark (with_recall (side_of start.mode p).recall start)) (sym deleted.holds)),
      )

  -- ---- A deletion with the bell: RECALL puts the recall text in as it was before the deletion, or is refused as FULL

  module _ (bell : o.answer.report.bell ≡ true) where
    same-finished : pressed Recall between ≡ reporting quiet (recall_put_in start)
    same-finished = ap (pressed Recall) (bell-holds s b Delete way place o promise accepts bell) ∙ recall-does start

    same-exceeding : Exceeds (T o.lent.stores) quarter (pressed Recall between).state ≡ Exceeds size quarter (recall_put_in start)
    same-exceeding = ap₂ (λ t d. Exceeds t quarter d.state) same_length same-finished

    same-long : LongLine (pressed Recall between).state ≡ LongLine (recall_put_in start)
    same-long = ap (λ d. LongLine d.state) same-finished

    -- Refused exactly when the finished text would not fit or would have a line that is too long, else accepted.
    pub older-full : (next.answer.code ≡ FULL) ↔ Exceeds size quarter (recall_put_in start)
    older-full = (
      λ e. transport same-exceeding (does.full.0 e).2,
      λ over. does.full.1 (deleted.follows, recall-sound between.mode, transport (sym same-exceeding) over),
    )

    pub older-long : (next.answer.code ≡ LINE) ↔ ((¬ Exceeds size quarter (recall_put_in start)) × LongLine (recall_put_in start))
    older-long = (
      λ e.
          let (on, sound, within, long) = does.line.0 e in
          (λ over. within (transport (sym same-exceeding) over), transport same-long long),
      λ (within, long).
          does.line.1
          (deleted.follows, recall-sound between.mode, λ over. within (transport same-exceeding over), transport (sym same-long) long),
    )

    pub older-accepted : (next.answer.code ≡ 0) ↔ ((¬ Exceeds size quarter (recall_put_in start)) × (¬ LongLine (recall_put_in start)))
    older-accepted = (
      λ e.
          let (on, sound, within, short) = does.accepted.0 e in
          (λ over. within (transport (sym same-exceeding) over), λ long. short (transport (sym same-long) long)),
      λ (within, short).
          does.accepted.1 (
            deleted.follows,
            recall-sound between.mode,
            λ over. within (transport same-exceeding over),
            λ long. short (transport same-long long),
          ),
    )

    pub older-put-in : next.answer.code ≡ 0 → held next.session next.lent.stores ≡ recall_put_in start
    older-put-in e =
        let done-so = does.carried e in
        let (ok, room, lines, same) = (accepted (T o.lent.stores) quarter Recall between done-so.did).0 done-so.plain in
        done-so.holds ∙ (ap (λ d. d.state) (sym same ∙ same-finished))
