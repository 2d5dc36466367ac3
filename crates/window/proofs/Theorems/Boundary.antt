-- The demands at the host's boundary: of the calls in numbers, for any record, any key numbers and any five stores.
use mathlib.Core.Path.{◌≡◌, refl, sym, ap, ap₂, subst⁻¹, ◌∙◌}
use mathlib.Core.Logic.{◌↔◌, ⊎_elim}
use mathlib.Core.Bool.{Bool, true, false, not, ◌&&◌, cond}
use mathlib.Core.List.{List, [], ◌∷◌}
use Prim.Native.Nat.{ℕ}
use native.Mathlib.Omega.{arith}
use lib.Dec.{leb}
use lib.ListN.{take, get_or}
use borrow.Author.Tests.{leb-true, le-leb}
use Rattle.gap.specs.Rules.Checks.{Check, check, first_failed, Passing}
use Rattle.gap.specs.Rules.Sequence.{every}
use Rattle.gap.specs.Rules.Layout.{allowed}
use Rattle.gap.specs.Rules.LineLimits.{lines_fit}
use Rattle.gap.proofs.Laws.Tests.{decided, and_left, and_right, and_both, cond-true, cond-false}
use Rattle.gap.proofs.Laws.Nearest.{Least}
use Rattle.gap.proofs.Laws.Order.{exactly, accepted-exactly}
use Rattle.gap.proofs.Theorems.LineLimits.{FirstLonger}
use Rattle.editor.specs.Rules.Refusals.{SIZE, LONG, TEXT, SESSION, KEY, FULL, LINE}
use Rattle.editor.specs.Rules.Plain.{Plain, opening, quiet, Did, reporting, Outcome, refused, done}
use Rattle.editor.specs.Rules.LongLines.{longest_line, readable}
use Rattle.editor.specs.Rules.Keys.{sound_key, pressed, fits, key, after}
use Rattle.editor.specs.Rules.Bytes.{quarter}
use Rattle.window.specs.Words.{Mode}
use Rattle.window.specs.declared.host.Record.{Record}
use Rattle.window.specs.Rules.Window.{virtual, policy}
use Rattle.window.specs.Rules.Core.{Lent, Called, T, tabled, is_session, held, start, opened_text, finished, shown, keyed}
use Rattle.window.specs.Rules.Rows.{Shortest}
use Rattle.window.specs.Rules.Refusals.{opening_checks, host_key_checks}
use Rattle.window.specs.Rules.Terminal.{opening_view, picture}
use Rattle.window.specs.Rules.Host.{Given, session_from, is_host_session, host_held, KeyNumbers, key_of, names, given_of}
use Rattle.window.specs.Rules.Host.{host_opened, host_unopened, host_keyed, host_pressed, host_turned_down, no_mode}
use Rattle.window.specs.Wording.Promise.{Follows, HostFollows, HostTold}
use Rattle.window.proofs.Laws.Window.{length-window}
use Rattle.window.proofs.Laws.Views.{view-held, view-tabled, view-session}
use Rattle.window.proofs.Theorems.Refusals.{opening_code, opening-size, opening-long, opening-text, opening-line, opening-accepted}
use Rattle.window.proofs.Theorems.Refusals.{opening-leaves, opening-done, opening-place, opening-line-place, opening-no-place, key-code, key-leaves}
use Rattle.window.proofs.Theorems.Sessions.{opening-view, session-keyed, key-follows}
use Rattle.window.proofs.Theorems.NamedRows.{unchanged-shortest}
use Rattle.window.proofs.Theorems.DemandThree.{key-names}
use Rattle.window.proofs.Theorems.OverAndBack.{record-over, mode-low, unnamed}
use Rattle.window.proofs.Theorems.Marks.{session-comes-back}

-- ---- Demand 1, opening: every call answers, each refusal exactly when and in order, and a refused one leaves everything

module _ (n H W : ℕ) (b : Lent) where
  pub host-opening-code : (host_opened n H W b).said.code ≡ first_failed (opening_checks n H W b)
  unfolding host_opened
  host-opening-code = opening_code n H W b

  -- SIZE, LONG, TEXT, LINE and 0, each exactly when its check is the first to fail.
  pub host-opening-size : ((host_opened n H W b).said.code ≡ SIZE) ↔ (Passing [] × (tabled H W b ≡ false))
  unfolding host_opened
  host-opening-size = opening-size n H W b

  pub host-opening-long : ((host_opened n H W b).said.code ≡ LONG)
      ↔ (Passing (check SIZE (tabled H W b) ∷ []) × (leb n (T b.stores) ≡ false))
  unfolding host_opened
  host-opening-long = opening-long n H W b

  pub host-opening-text : ((host_opened n H W b).said.code ≡ TEXT)
      ↔ (Passing (check SIZE (tabled H W b) ∷ check LONG (leb n (T b.stores)) ∷ []) × (every allowed (take n b.stores.text) ≡ false))
  unfolding host_opened
  host-opening-text = opening-text n H W b

  pub host-opening-line : ((host_opened n H W b).said.code ≡ LINE)
      ↔ (Passing
      (check SIZE (tabled H W b) ∷ check LONG (leb n (T b.stores)) ∷ check TEXT (every allowed (take n b.stores.text)) ∷ [])
      × (lines_fit longest_line (take n b.stores.text) ≡ false))
  unfolding host_opened
  host-opening-line = opening-line n H W b

  pub host-opening-accepted : ((host_opened n H W b).said.code ≡ 0) ↔ Passing (opening_checks n H W b)
  unfolding host_opened
  host-opening-accepted = opening-accepted n H W b

  -- A refused opening hands back zeros, and leaves every byte of the stores.
  pub host-opening-leaves : ((host_opened n H W b).said.code ≡ 0 → ⊥)
      → host_opened n H W b ≡ host_unopened b (host_opened n H W b).said.code (host_opened n H W b).said.place
  unfolding host_opened
  host-opening-leaves bad = ap given_of (opening-leaves n H W b bad)

  -- The place is the first bad index for TEXT, where the first longer line begins for LINE, and 0 otherwise.
  pub host-opening-place : (host_opened n H W b).said.code ≡ TEXT
      → Least (λ i. not (allowed (get_or b.stores.text i 0))) n 0 (host_opened n H W b).said.place
  unfolding host_opened
  host-opening-place = opening-place n H W b

  pub host-opening-line-place : (host_opened n H W b).said.code ≡ LINE
      → FirstLonger longest_line (take n b.stores.text) (host_opened n H W b).said.place
  unfolding host_opened
  host-opening-line-place = opening-line-place n H W b

  pub host-opening-no-place : ((host_opened n H W b).said.code ≡ TEXT → ⊥) → ((host_opened n H W b).said.code ≡ LINE → ⊥)
      → (host_opened n H W b).said.place ≡ 0
  unfolding host_opened
  host-opening-no-place = opening-no-place n H W b

-- ---- Demand 1, keys

-- Numbers that name no key are no sound key.
named-sound : (mode : Mode) (x : KeyNumbers) → sound_key mode (key_of x) ≡ (names x && sound_key mode (key_of x))
unfolding sound_key
named-sound mode x =
    ⊎_elim
    (λ named. ap (λ t. t && sound_key mode (key_of x)) (sym named))
    (λ none. ap (sound_key mode) (unnamed x none) ∙ ap (λ t. t && sound_key mode (key_of x)) (sym none))
    (decided (names x))

no-mode-code : (t : Bool) (checks : List Check) → cond t SESSION SIZE ≡ first_failed (check SIZE t ∷ check SESSION false ∷ checks)
unfolding first_failed
no-mode-code true checks = refl
no-mode-code false checks = refl

module _ (n : Record) (x : KeyNumbers) (b : Lent) where
  -- With a mode that is one it is the core's key; any other mode is refused.
  pub in-mode : leb n.mode 1 ≡ true → host_pressed n x b ≡ given_of (keyed (session_from n) (key_of x) b)
  unfolding host_keyed
  in-mode low = cond-true _ _ low

  off-mode : leb n.mode 1 ≡ false → host_pressed n x b ≡ no_mode n b
  unfolding host_keyed
  off-mode high = cond-false _ _ high

  pub host-key-code : (host_pressed n x b).said.code ≡ first_failed (host_key_checks n x b)
  host-key-code =
      ⊎_elim
      (λ low. ap (λ g. g.said.code) (in-mode low) ∙ (key-code (session_from n) (key_of x) b ∙ rw (low, ← named-sound (host_held n b.stores).mode x)))
      (λ high. ap (λ g. g.said.code) (off-mode high) ∙ rw high (no-mode-code (tabled n.rows n.columns b) _))
      (decided (leb n.mode 1))

  -- SIZE, SESSION, KEY, FULL, LINE and 0, each exactly when its check is the first to fail.
  pub host-key-size : ((host_pressed n x b).said.code ≡ SIZE) ↔ (Passing [] × (tabled n.rows n.columns b ≡ false))
  host-key-size = rw host-key-code (exactly [] SIZE _ _ refl refl)

  pub host-key-session : ((host_pressed n x b).said.code ≡ SESSION)
      ↔ (Passing (check SIZE (tabled n.rows n.columns b) ∷ []) × (is_host_session n b.stores ≡ false))
  host-key-session = rw host-key-code (exactly (check SIZE _ ∷ []) SESSION _ _ refl refl)

  pub host-key-key : ((host_pressed n x b).said.code ≡ KEY)
      ↔ (Passing (check SIZE (tabled n.rows n.columns b) ∷ check SESSION (is_host_session n b.stores) ∷ [])
      × ((names x && sound_key (host_held n b.stores).mode (key_of x)) ≡ false))
  host-key-key = rw host-key-code (exactly (check SIZE _ ∷ check SESSION _ ∷ []) KEY _ _ refl refl)

  pub host-key-full : ((host_pressed n x b).said.code ≡ FULL)
      ↔ (Passing
      (check SIZE (tabled n.rows n.columns b)
      ∷ check SESSION (is_host_session n b.stores)
      ∷ check KEY (names x && sound_key (host_held n b.stores).mode (key_of x))
      ∷ [])
      × (fits (T b.stores) quarter (pressed (key_of x) (host_held n b.stores)).state ≡ false))
  host-key-full = rw host-key-code (exactly (check SIZE _ ∷ check SESSION _ ∷ check KEY _ ∷ []) FULL _ _ refl refl)

  pub host-key-line : ((host_pressed n x b).said.code ≡ LINE)
      ↔ (Passing
      (check SIZE (tabled n.rows n.columns b)
      ∷ check SESSION (is_host_session n b.stores)
      ∷ check KEY (names x && sound_key (host_held n b.stores).mode (key_of x))
      ∷ check FULL (fits (T b.stores) quarter (pressed (key_of x) (host_held n b.stores)).state)
      ∷ [])
      × (readable longest_line (pressed (key_of x) (host_held n b.stores)).state ≡ false))
  host-key-line = rw host-key-code (exactly (check SIZE _ ∷ check SESSION _ ∷ check KEY _ ∷ check FULL _ ∷ []) LINE _ _ refl refl)

  pub host-key-accepted : ((host_pressed n x b).said.code ≡ 0) ↔ Passing (host_key_checks n x b)
  host-key-accepted = rw host-key-code (accepted-exactly (host_key_checks n x b) refl)

  -- A refused key hands back the record that it was given, number for number, and leaves every byte of the stores.
  pub host-key-leaves : ((host_pressed n x b).said.code ≡ 0 → ⊥) → host_pressed n x b ≡ host_turned_down n b (host_pressed n x b).said.code
  host-key-leaves bad =
      ⊎_elim
      (λ low.
      let o = keyed (session_from n) (key_of x) b in
      let code : (host_pressed n x b).said.code ≡ o.answer.code = ap (λ g. g.said.code) (in-mode low) in
      in-mode low
      ∙ (ap given_of (key-leaves (session_from n) (key_of x) b (λ e. bad (code ∙ e)))
      ∙ ap₂ (λ m c. host_turned_down m b c) ((record-over n).1 (leb-true n.mode 1 low)) (sym code)))
      (λ high. off-mode high ∙ ap (λ g. host_turned_down n b g.said.code) (sym (off-mode high)))
      (decided (leb n.mode 1))

  -- In order: whatever the record, SIZE and SESSION come before KEY. On a session, numbers that name no key get KEY.
  pub unnamed-refused : names x ≡ false → tabled n.rows n.columns b ≡ true → is_host_session n b.stores ≡ true
      → host_pressed n x b ≡ host_turned_down n b KEY
  unnamed-refused none fit ok =
      let code = host-key-key.1 ((fit, (ok, tt)), ap (λ t. t && sound_key (host_held n b.stores).mode (key_of x)) none) in
      host-key-leaves (λ e. absurd (omega (arith, code, e))) ∙ ap (host_turned_down n b) code

-- ---- Demand 2: record and stores hold what the plain editor says, and the answer is its report

-- What follows from a call of the core follows in numbers.
given-follows : (o : Called) (p : Plain) → Follows o p → HostFollows (given_of o) p
given-follows o p follows =
    let back = session-comes-back o.session o.lent (record { fit = follows.fit; ok = follows.session }) in
    record {
      fit = follows.fit;
      session =
          and_both (le-leb _ 1 (mode-low o.session.lengths.mode))
          (ap (λ s. is_session s o.lent.stores) back ∙ follows.session);
      holds = ap (λ s. held s o.lent.stores) back ∙ follows.holds;
    }

module _ (n H W : ℕ) (b : Lent) (accepts : (host_opened n H W b).said.code ≡ 0) where
  opened-core : host_opened n H W b ≡ given_of (opened_text n H W b)
  unfolding host_opened
  opened-core = ap given_of (opening-done n H W b accepts)

  -- An accepted opening gives a session that holds the text, with the cursor at its beginning.
  pub host-opening-follows : HostFollows (host_opened n H W b) (opening (take n b.stores.text))
  unfolding host_opened opened_text
  host-opening-follows =
      let v = opening_view n H W b in
      let good = opening-view n H W b accepts in
      let long = length-window v.frame (virtual v.plain) in
      subst⁻¹ (λ g. HostFollows g v.plain) opened-core
      (given-follows (opened_text n H W b) v.plain
      (record {
        fit = view-tabled (T b.stores) v good (picture v) long;
        session = view-session (T b.stores) v good (picture v) long;
        holds = view-held (T b.stores) v good (picture v) long;
      }))

  -- Its answer is quiet, and the window starts at the document's beginning.
  pub host-opening-told : HostTold (host_opened n H W b) (reporting quiet (opening (take n b.stores.text))) (start H W)
  unfolding opened_text
  host-opening-told =
      subst⁻¹ (λ g. HostTold g (reporting quiet (opening (take n b.stores.text))) (start H W)) opened-core
      (record { code = refl; place = refl; steps = refl; lines = refl; bell = refl; row = refl; column = refl; frame = refl; screen = refl })

-- On a session the key in numbers is the plain editor's.
module _ (n : Record) (x : KeyNumbers) (b : Lent) (fit : tabled n.rows n.columns b ≡ true) (ok : is_host_session n b.stores ≡ true) where
  low : leb n.mode 1 ≡ true
  low = and_left (leb n.mode 1) (is_session (session_from n) b.stores) ok

  core-ok : is_session (session_from n) b.stores ≡ true
  core-ok = and_right (leb n.mode 1) (is_session (session_from n) b.stores) ok

  in-core : (o : Outcome) → key (T b.stores) quarter (key_of x) (host_held n b.stores) ≡ o
      → host_pressed n x b ≡ given_of (finished (session_from n) b o)
  in-core o e =
      in-mode n x b low ∙ ap given_of (session-keyed (session_from n) (key_of x) b fit core-ok ∙ ap (finished (session_from n) b) e)

  -- Every key, accepted or refused, leads to a session, which holds what the plain editor says.
  pub host-key-follows : HostFollows (host_pressed n x b)
      (after (host_held n b.stores) (key (T b.stores) quarter (key_of x) (host_held n b.stores)))
  host-key-follows =
      subst⁻¹ (λ g. HostFollows g (after (host_held n b.stores) (key (T b.stores) quarter (key_of x) (host_held n b.stores))))
      (in-mode n x b low) (given-follows _ _ (key-follows (session_from n) (key_of x) b fit core-ok))

  -- A key that the plain editor does is told as it did it: steps, lines, bell, and the cursor in the window that the policy gives.
  pub host-key-told : (did : Did Plain) → key (T b.stores) quarter (key_of x) (host_held n b.stores) ≡ done did
      → HostTold (host_pressed n x b) did (policy (session_from n).frame (virtual did.state))
  unfolding finished shown
  host-key-told did e =
      subst⁻¹ (λ g. HostTold g did (policy (session_from n).frame (virtual did.state))) (in-core (done did) e)
      (record { code = refl; place = refl; steps = refl; lines = refl; bell = refl; row = refl; column = refl; frame = refl; screen = refl })

  -- One that the plain editor refuses is refused with the same number.
  pub host-key-refused : (code : ℕ) → key (T b.stores) quarter (key_of x) (host_held n b.stores) ≡ refused code
      → host_pressed n x b ≡ host_turned_down n b code
  unfolding finished
  host-key-refused code e =
      in-core (refused code) e ∙ ap (λ m. host_turned_down m b code) ((record-over n).1 (leb-true n.mode 1 low))

-- ---- Demand 3, row by row: at any call the named rows are the shortest run that covers every row in which the lent screen changed

module _ (n : Record) (x : KeyNumbers) (b : Lent) where
  abbrev NamedIn : Given → Type 0
  NamedIn g = Shortest n.rows n.columns b.screen g.lent.screen g.said.first g.said.last

  pub host-rows-named :
      Shortest n.rows n.columns b.screen (host_pressed n x b).lent.screen (host_pressed n x b).said.first (host_pressed n x b).said.last
  host-rows-named =
      ⊎_elim
      (λ low. subst⁻¹ NamedIn (in-mode n x b low) (key-names (session_from n) (key_of x) b))
      (λ high. subst⁻¹ NamedIn (off-mode n x b high) (unchanged-shortest _ _ _ _ refl))
      (decided (leb n.mode 1))
