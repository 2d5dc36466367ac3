-- Demand 3: a terminal that is given the full screen once and afterwards only the named rows shows the window of the plain
-- document after the same keys, refused ones skipped.
use mathlib.Core.Path.{◌≡◌, refl, sym, ap, ap₂, subst, subst⁻¹, transport, ◌∙◌}
use mathlib.Core.Logic.{⊎_elim}
use mathlib.Core.Bool.{true}
use mathlib.Core.List.{List, [], ◌∷◌}
use Prim.Native.Nat.{ℕ}
use lib.Dec.{eqb}
use lib.ListN.{take}
use borrow.Author.Tests.{eqb-true, eqb-false}
use Rattle.gap.specs.Rules.Sequence.{every}
use Rattle.gap.specs.Rules.Layout.{printable}
use Rattle.gap.proofs.Laws.Tests.{decided}
use Rattle.editor.specs.declared.Key.{Key}
use Rattle.editor.specs.Rules.Plain.{Outcome, refused, done, opening}
use Rattle.editor.specs.Rules.Keys.{key, keys, after}
use Rattle.editor.specs.Rules.Bytes.{quarter}
use Rattle.window.specs.Words.{Session}
use Rattle.window.specs.Rules.Window.{virtual, window, policy}
use Rattle.window.specs.Rules.Core.{Lent, Called, T, tabled, held, lent_of, opened_text, opened, finished, shown, keyed}
use Rattle.window.specs.Rules.Rows.{Shortest}
use Rattle.window.specs.Rules.Terminal.{Bench, View, opened_bench, opening_view, given, repaint, struck, typed, looked, viewed, picture}
use Rattle.window.specs.Rules.Terminal.{Good, record_of, stores_with, Showing}
use Rattle.window.specs.Wording.Demands.{NamesRows}
use Rattle.window.proofs.Laws.Window.{length-window, window-printable, virtual-allowed}
use Rattle.window.proofs.Laws.Rows.{repainted}
use Rattle.window.proofs.Laws.Views.{tabled-facts, view-keyed, view-size, looked-good}
use Rattle.window.proofs.Theorems.Refusals.{opening-done, key-accepted, key-leaves}
use Rattle.window.proofs.Theorems.Sessions.{opening-view, session-keyed}
use Rattle.window.proofs.Theorems.NamedRows.{unchanged-shortest, named-rows}

looked-after : (v : View) (o : Outcome) → (looked v o).plain ≡ after v.plain o
looked-after v (refused n) = refl
looked-after v (done did) = refl

-- A good view shows only bytes 32 to 126.
pub picture-printable : (size : ℕ) (v : View) → Good size v → every printable (picture v) ≡ true
picture-printable size v good =
    window-printable v.frame (virtual v.plain)
    (virtual-allowed v.plain.mode v.plain.main.text v.plain.quoted.text good.sound.texts.text.bytes good.sound.texts.quotation.bytes)

-- Repainting with no named rows changes nothing; with those of an accepted key it shows the new window.
outcome-showing : (size : ℕ) (v : View) → Good size v → (o : Outcome)
    → Showing size (looked v o) (given (finished (record_of v) (stores_with size v (picture v)) o) (picture v))
unfolding finished shown repaint policy
outcome-showing size v good (refused n) = record { session = refl; lent = refl; terminal = refl }
outcome-showing size v good (done did) =
    let d = virtual did.state in
    let g = policy v.frame d in
    record {
      session = refl;
      lent = ap (λ t. lent_of t did.state g) (view-size size v good (picture v) (length-window _ _));
      terminal = repainted v.frame.h v.frame.w (picture v) (window g d) (length-window _ _) (length-window g d);
    }

-- One key: from a bench that shows a good view to one that shows the view after the key, which is good again.
module _ (size : ℕ) (k : Key) (v : View) (good : Good size v) where
  abbrev next : View
  next = looked v (key size quarter k v.plain)

  pub key-good : Good size next
  key-good = looked-good size k v good (key size quarter k v.plain) refl

  pub key-showing : (at : Bench) → Showing size v at → Showing size next (struck k at)
  unfolding struck
  key-showing at shows =
      let o = ap₂ (λ s b. keyed s k b) shows.session shows.lent ∙ view-keyed size v good (picture v) (length-window _ _) k in
      subst (Showing size next) (sym (ap₂ given o shows.terminal)) (outcome-showing size v good (key size quarter k v.plain))

-- Any list of keys, from any good view that the bench shows.
pub keys-good : (size : ℕ) (ks : List Key) (v : View) → Good size v → Good size (viewed size ks v)
unfolding viewed
keys-good size [] v good = good
keys-good size (k ∷ ks) v good = keys-good size ks _ (key-good size k v good)

pub keys-showing : (size : ℕ) (ks : List Key) (v : View) (at : Bench) → Good size v → Showing size v at
    → Showing size (viewed size ks v) (typed ks at)
unfolding viewed typed
keys-showing size [] v at good shows = shows
keys-showing size (k ∷ ks) v at good shows =
    keys-showing size ks _ (struck k at) (key-good size k v good) (key-showing size k v good at shows)

-- The view's plain state is the plain editor's after the same keys.
pub viewed-plain : (size : ℕ) (ks : List Key) (v : View) → (viewed size ks v).plain ≡ keys size quarter ks v.plain
unfolding viewed keys
viewed-plain size [] v = refl
viewed-plain size (k ∷ ks) v = viewed-plain size ks (looked v o) ∙ ap (keys size quarter ks) (looked-after v o)
  where
    o : Outcome
    o = key size quarter k v.plain

-- After a good open, any list of keys.
module _ (n H W : ℕ) (b : Lent) (accepts : (opened n H W b).answer.code ≡ 0) where
  pub opening-showing : Showing (T b.stores) (opening_view n H W b) (opened_bench n H W b)
  unfolding opened_text
  opening-showing =
      let done-so = opening-done n H W b accepts in
      record {
        session = ap (λ o. o.session) done-so;
        lent = ap (λ o. o.lent) done-so;
        terminal = ap (λ o. o.lent.screen) done-so;
      }

  -- The terminal shows the window of the plain document after the same keys.
  pub demand-three : (ks : List Key)
      → ((typed ks (opened_bench n H W b)).terminal ≡ picture (viewed (T b.stores) ks (opening_view n H W b)))
      × ((viewed (T b.stores) ks (opening_view n H W b)).plain ≡ keys (T b.stores) quarter ks (opening (take n b.stores.text)))
  demand-three ks = (
    (keys-showing (T b.stores) ks (opening_view n H W b) (opened_bench n H W b) (opening-view n H W b accepts) opening-showing).terminal,
    viewed-plain (T b.stores) ks (opening_view n H W b),
  )

  -- All that it shows is printable.
  pub terminal-printable : (ks : List Key) → every printable (typed ks (opened_bench n H W b)).terminal ≡ true
  terminal-printable ks =
      ap (every printable) (demand-three ks).0
      ∙ picture-printable (T b.stores) _ (keys-good (T b.stores) ks (opening_view n H W b) (opening-view n H W b accepts))

-- On any record and stores, whatever the lent screen shows: the named rows are the shortest run that covers every changed row. A refused
-- key changes none and names none.
module _ (s : Session) (k : Key) (b : Lent) where
  abbrev Names : Called → Type 0
  Names o = Shortest s.frame.h s.frame.w b.screen o.lent.screen o.answer.first o.answer.last

  outcome-names : tabled s.frame.h s.frame.w b ≡ true → (o : Outcome) → Names (finished s b o)
  unfolding finished shown policy
  outcome-names fit (refused n) = unchanged-shortest _ _ _ _ refl
  outcome-names fit (done did) = named-rows _ _ _ _ (tabled-facts _ _ b fit).long (length-window _ _)

  accepted-names : (keyed s k b).answer.code ≡ 0 → Names (keyed s k b)
  accepted-names accepts =
      let passed = (key-accepted s k b).0 accepts in
      subst⁻¹ Names (session-keyed s k b passed.0 passed.1.0)
      (outcome-names passed.0 (key (T b.stores) quarter k (held s b.stores)))

  pub key-names :
      Shortest s.frame.h s.frame.w b.screen (keyed s k b).lent.screen (keyed s k b).answer.first (keyed s k b).answer.last
  key-names =
      ⊎_elim (λ accepts. accepted-names (eqb-true _ _ accepts))
      (λ refuses. subst⁻¹ Names (key-leaves s k b (eqb-false _ _ refuses)) (unchanged-shortest _ _ _ _ refl))
      (decided (eqb (keyed s k b).answer.code 0))

-- One key on a bench that shows a good view: what the terminal shows is what is lent and what is given back, so that the named rows are
-- the shortest run that covers every row which changes on the terminal.
pub view-names : (size : ℕ) (k : Key) (v : View) → Good size v → (at : Bench) → Showing size v at
    → NamesRows v.frame.h v.frame.w at (keyed at.called.session k at.called.lent)
unfolding struck
view-names size k v good at shows =
    let next = key-showing size k v good at shows in
    let o = keyed at.called.session k at.called.lent in
    let before : at.terminal ≡ at.called.lent.screen = shows.terminal ∙ sym (ap (λ b. b.screen) shows.lent) in
    let after : (given o at.terminal).terminal ≡ o.lent.screen = next.terminal ∙ sym (ap (λ b. b.screen) next.lent) in
    record {
      before = before;
      after = after;
      shortest =
          transport
          (λ i. Shortest (shows.session i).frame.h (shows.session i).frame.w (sym before i) (sym after i) o.answer.first o.answer.last)
          (key-names at.called.session k at.called.lent);
    }

-- The offsets follow the cursor, but H and W stay.
pub looked-size : (v : View) (o : Outcome) → ((looked v o).frame.h ≡ v.frame.h) × ((looked v o).frame.w ≡ v.frame.w)
unfolding policy
looked-size v (refused n) = (refl, refl)
looked-size v (done did) = (refl, refl)

viewed-size : (size : ℕ) (ks : List Key) (v : View) → ((viewed size ks v).frame.h ≡ v.frame.h) × ((viewed size ks v).frame.w ≡ v.frame.w)
unfolding viewed
viewed-size size [] v = (refl, refl)
viewed-size size (k ∷ ks) v =
    let here = looked-size v (key size quarter k v.plain) in
    let rest = viewed-size size ks (looked v (key size quarter k v.plain)) in
    (rest.0 ∙ here.0, rest.1 ∙ here.1)

-- After a good open, at every key k of any list, whatever keys ks came before it.
module _ (n H W : ℕ) (b : Lent) (accepts : (opened n H W b).answer.code ≡ 0) where
  pub keys-names : (ks : List Key) (k : Key)
      → let at = typed ks (opened_bench n H W b) in NamesRows H W at (keyed at.called.session k at.called.lent)
  keys-names ks k =
      let v = opening_view n H W b in
      let at = typed ks (opened_bench n H W b) in
      let good = opening-view n H W b accepts in
      let size = viewed-size (T b.stores) ks v in
      transport (λ i. NamesRows (size.0 i) (size.1 i) at (keyed at.called.session k at.called.lent))
      (view-names (T b.stores) k (viewed (T b.stores) ks v) (keys-good (T b.stores) ks v good) at
      (keys-showing (T b.stores) ks v (opened_bench n H W b) good (opening-showing n H W b accepts)))
