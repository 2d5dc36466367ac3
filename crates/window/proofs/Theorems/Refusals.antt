-- Refusals: each number exactly when document 01's table says, in its order, and what a refused call leaves.
use Rattle.std.proofs.Common.{Option, Some, None}
use mathlib.Core.Path.{◌≡◌, refl, sym, ap, ◌∙◌}
use mathlib.Core.Logic.{◌↔◌, ⊎_elim}
use mathlib.Core.Bool.{Bool, true, false, not, cond}
use mathlib.Core.List.{List, [], ◌∷◌}
use Prim.Native.Nat.{ℕ, ◌+◌, ◌≤◌, ◌<◌, zero-le}
use native.Mathlib.Omega.{arith}
use lib.Dec.{leb}
use lib.ListN.{length, take, get_or}
use lib.Seq.{length-take-le, get_or-take}
use borrow.Author.Tests.{leb-true, not-true, not-false}
use Rattle.gap.specs.Rules.Checks.{check, first_failed, Passing}
use Rattle.gap.specs.Rules.Sequence.{every}
use Rattle.gap.specs.Rules.Nearest.{nearest}
use Rattle.gap.specs.Rules.Layout.{allowed}
use Rattle.gap.specs.Rules.LineLimits.{lines_fit, long_line}
use Rattle.gap.proofs.Laws.Tests.{decided, clash}
use Rattle.gap.proofs.Laws.Sequence.{every-at, at_every}
use Rattle.gap.proofs.Laws.Nearest.{Least, reached-least, nowhere-none}
use Rattle.gap.proofs.Laws.LongLines.{fit-nowhere, nowhere-fit}
use Rattle.gap.proofs.Theorems.LineLimits.{FirstLonger, long-line-first}
use Rattle.editor.specs.declared.Key.{Key}
use Rattle.editor.specs.Rules.Refusals.{SIZE, LONG, TEXT, SESSION, KEY, FULL, LINE}
use Rattle.editor.specs.Rules.Plain.{Plain, Did, refused, done}
use Rattle.editor.specs.Rules.LongLines.{longest_line, readable}
use Rattle.editor.specs.Rules.Keys.{sound_key, pressed, fits, bounded, key}
use Rattle.editor.specs.Rules.Bytes.{quarter}
use Rattle.window.specs.Words.{Session}
use Rattle.window.specs.Rules.Core.{Lent, Called, T, tabled, is_session, held, unopened, opened_text, bad_byte, bad_line, unless_at, opened}
use Rattle.window.specs.Rules.Core.{turned_down, shown, finished, keyed}
use Rattle.window.specs.Rules.Refusals.{opening_checks, key_checks}
use Rattle.gap.proofs.Laws.Order.{exactly, accepted-exactly}

-- ---- opening

abbrev pub none : Option ℕ → Bool
none (Some i) = false
none None = true

-- A search for a byte that fails a test finds none exactly when each of the first n bytes passes.
pub none-fails : (test : ℕ → Bool) (n : ℕ) (text : List ℕ) → n ≤ length text
    → none (nearest (λ i. not (test (get_or text i 0))) n 0) ≡ every test (take n text)
none-fails test n text h = go (nearest (λ i. not (test (get_or text i 0))) n 0) refl
  where
    bytes : length (take n text) ≡ n
    bytes = length-take-le n text h

    go : (s : Option ℕ) → nearest (λ i. not (test (get_or text i 0))) n 0 ≡ s → none s ≡ every test (take n text)
    go (Some i) e =
        let least = reached-least _ n 0 i e in
        let below : i < n = omega (arith, least.within) in
        let short : i < length (take n text) = omega (arith, bytes) in
        ⊎_elim
        (λ sound.
        clash
        (sym (ap test (get_or-take n text i 0 below)) ∙ every-at test (take n text) i sound short)
        (not-true _ least.passes))
        (λ bad. sym bad)
        (decided (every test (take n text)))
    go None e =
        sym
        (at_every test (take n text)
        (λ i short.
        let below : i < n = omega (arith, bytes) in
        let high : i < 0 + n = omega arith in
        ap test (get_or-take n text i 0 below) ∙ not-false _ (nowhere-none _ n 0 e i zero-le high)))

-- A search for a longer line finds none exactly when every line fits.
pub none-long : (limit : ℕ) (s : List ℕ) → none (long_line limit s) ≡ lines_fit limit s
none-long limit s =
    ⊎_elim (λ fits. ap none (fit-nowhere limit s fits) ∙ sym fits) (λ bad. go (long_line limit s) refl bad ∙ sym bad) (decided (lines_fit limit s))
  where
    go : (found : Option ℕ) → long_line limit s ≡ found → lines_fit limit s ≡ false → none found ≡ false
    go (Some i) e bad = refl
    go None e bad = clash (nowhere-fit limit s e) bad

-- The check of the bytes counts only where the stated length fits.
bytes-check : (t u v w x : Bool) → (u ≡ true → v ≡ w)
    → first_failed (check SIZE t ∷ check LONG u ∷ check TEXT v ∷ check LINE x ∷ [])
    ≡ first_failed (check SIZE t ∷ check LONG u ∷ check TEXT w ∷ check LINE x ∷ [])
unfolding first_failed
bytes-check false u v w x e = refl
bytes-check true false v w x e = refl
bytes-check true true v w x e = ap (λ y. first_failed (check TEXT y ∷ check LINE x ∷ [])) (e refl)

module _ (n H W : ℕ) (b : Lent) where
  -- What opening answers, by its four tests.
  choice : Bool → Bool → Option ℕ → Option ℕ → Called
  choice t u s l =
      cond t (cond u (unless_at TEXT s b (unless_at LINE l b (opened_text n H W b))) (unopened b LONG 0)) (unopened b SIZE 0)

  abbrev chosen : Called
  chosen = choice (tabled H W b) (leb n (T b.stores)) (bad_byte n b.stores.text) (bad_line n b.stores.text)

  is-chosen : opened n H W b ≡ chosen
  unfolding opened choice
  is-chosen = refl

  code_of : (t u : Bool) (s l : Option ℕ)
      → (choice t u s l).answer.code ≡ first_failed (check SIZE t ∷ check LONG u ∷ check TEXT (none s) ∷ check LINE (none l) ∷ [])
  unfolding choice opened_text first_failed
  code_of false u s l = refl
  code_of true false s l = refl
  code_of true true (Some i) l = refl
  code_of true true None (Some i) = refl
  code_of true true None None = refl

  pub opening_code : (opened n H W b).answer.code ≡ first_failed (opening_checks n H W b)
  opening_code =
      ap (λ o. o.answer.code) is-chosen ∙ code_of _ _ _ _
      ∙ bytes-check _ _ _ _ _ (λ e. none-fails allowed n b.stores.text (leb-true n (T b.stores) e))
      ∙ ap
      (λ x. first_failed
      (check SIZE (tabled H W b)
      ∷ check LONG (leb n (T b.stores))
      ∷ check TEXT (every allowed (take n b.stores.text))
      ∷ check LINE x
      ∷ []))
      (none-long longest_line (take n b.stores.text))

  -- 01, refusals: opening checks SIZE, LONG, TEXT, and 02, M-106, LINE after TEXT; each number is given exactly when its check is the first to
  -- fail.
  pub opening-size : ((opened n H W b).answer.code ≡ SIZE) ↔ (Passing [] × (tabled H W b ≡ false))
  opening-size = rw opening_code (exactly [] SIZE _ _ refl refl)

  pub opening-long : ((opened n H W b).answer.code ≡ LONG) ↔ (Passing (check SIZE (tabled H W b) ∷ []) × (leb n (T b.stores) ≡ false))
  opening-long = rw opening_code (exactly (check SIZE _ ∷ []) LONG _ _ refl refl)

  pub opening-text : ((opened n H W b).answer.code ≡ TEXT)
      ↔ (Passing (check SIZE (tabled H W b) ∷ check LONG (leb n (T b.stores)) ∷ []) × (every allowed (take n b.stores.text) ≡ false))
  opening-text = rw opening_code (exactly (check SIZE _ ∷ check LONG _ ∷ []) TEXT _ _ refl refl)

  pub opening-line : ((opened n H W b).answer.code ≡ LINE)
      ↔ (Passing
      (check SIZE (tabled H W b) ∷ check LONG (leb n (T b.stores)) ∷ check TEXT (every allowed (take n b.stores.text)) ∷ [])
      × (lines_fit longest_line (take n b.stores.text) ≡ false))
  opening-line = rw opening_code (exactly (check SIZE _ ∷ check LONG _ ∷ check TEXT _ ∷ []) LINE _ _ refl refl)

  pub opening-accepted : ((opened n H W b).answer.code ≡ 0) ↔ Passing (opening_checks n H W b)
  opening-accepted = rw opening_code (accepted-exactly (opening_checks n H W b) refl)

  accepts : (t u : Bool) (s l : Option ℕ) → (choice t u s l).answer.code ≡ 0 → choice t u s l ≡ opened_text n H W b
  unfolding choice
  accepts false u s l e = absurd (omega (arith, e))
  accepts true false s l e = absurd (omega (arith, e))
  accepts true true (Some i) l e = absurd (omega (arith, e))
  accepts true true None (Some i) e = absurd (omega (arith, e))
  accepts true true None None e = refl

  pub opening-done : (opened n H W b).answer.code ≡ 0 → opened n H W b ≡ opened_text n H W b
  opening-done e = is-chosen ∙ accepts _ _ _ _ (ap (λ o. o.answer.code) (sym is-chosen) ∙ e)

  -- A refused opening returns a record of zeros in mode MAIN with no mark and leaves all five stores; steps, bell, rows and cursor are 0.
  leaves : (t u : Bool) (s l : Option ℕ) → ((choice t u s l).answer.code ≡ 0 → ⊥)
      → choice t u s l ≡ unopened b (choice t u s l).answer.code (choice t u s l).answer.place
  unfolding choice opened_text
  leaves false u s l bad = refl
  leaves true false s l bad = refl
  leaves true true (Some i) l bad = refl
  leaves true true None (Some i) bad = refl
  leaves true true None None bad = absurd (bad refl)

  pub opening-leaves : ((opened n H W b).answer.code ≡ 0 → ⊥)
      → opened n H W b ≡ unopened b (opened n H W b).answer.code (opened n H W b).answer.place
  unfolding opened choice
  opening-leaves bad =
      leaves (tabled H W b) (leb n (T b.stores)) (bad_byte n b.stores.text) (bad_line n b.stores.text) bad

  -- For TEXT the place is the first index whose byte is not allowed, for LINE the index at which the first longer line begins, and otherwise 0.
  places : (t u : Bool) (s l : Option ℕ) → (choice t u s l).answer.code ≡ TEXT → s ≡ Some (choice t u s l).answer.place
  unfolding choice opened_text
  places false u s l e = absurd (omega (arith, e))
  places true false s l e = absurd (omega (arith, e))
  places true true (Some i) l e = refl
  places true true None (Some i) e = absurd (omega (arith, e))
  places true true None None e = absurd (omega (arith, e))

  pub opening-place : (opened n H W b).answer.code ≡ TEXT
      → Least (λ i. not (allowed (get_or b.stores.text i 0))) n 0 (opened n H W b).answer.place
  unfolding opened choice
  opening-place e =
      reached-least _ n 0 _
      (places (tabled H W b) (leb n (T b.stores)) (bad_byte n b.stores.text) (bad_line n b.stores.text) e)

  line-places : (t u : Bool) (s l : Option ℕ) → (choice t u s l).answer.code ≡ LINE → l ≡ Some (choice t u s l).answer.place
  unfolding choice opened_text
  line-places false u s l e = absurd (omega (arith, e))
  line-places true false s l e = absurd (omega (arith, e))
  line-places true true (Some i) l e = absurd (omega (arith, e))
  line-places true true None (Some i) e = refl
  line-places true true None None e = absurd (omega (arith, e))

  pub opening-line-place : (opened n H W b).answer.code ≡ LINE
      → FirstLonger longest_line (take n b.stores.text) (opened n H W b).answer.place
  unfolding opened choice
  opening-line-place e =
      (long-line-first longest_line (take n b.stores.text) _).0
      (line-places (tabled H W b) (leb n (T b.stores)) (bad_byte n b.stores.text) (bad_line n b.stores.text) e)

  no_place : (t u : Bool) (s l : Option ℕ) → ((choice t u s l).answer.code ≡ TEXT → ⊥) → ((choice t u s l).answer.code ≡ LINE → ⊥)
      → (choice t u s l).answer.place ≡ 0
  unfolding choice opened_text
  no_place false u s l other also = refl
  no_place true false s l other also = refl
  no_place true true (Some i) l other also = absurd (other refl)
  no_place true true None (Some i) other also = absurd (also refl)
  no_place true true None None other also = refl

  pub opening-no-place : ((opened n H W b).answer.code ≡ TEXT → ⊥) → ((opened n H W b).answer.code ≡ LINE → ⊥)
      → (opened n H W b).answer.place ≡ 0
  unfolding opened choice
  opening-no-place other also =
      no_place (tabled H W b) (leb n (T b.stores)) (bad_byte n b.stores.text) (bad_line n b.stores.text) other also

-- ---- a key

module _ (s : Session) (k : Key) (b : Lent) where
  decision : (t u v w x : Bool) → Did Plain → Called
  decision t u v w x did =
      cond t
      (cond u (finished s b (cond v (cond w (cond x (done did) (refused LINE)) (refused FULL)) (refused KEY))) (turned_down s b SESSION))
      (turned_down s b SIZE)

  key-code-of : (t u v w x : Bool) (did : Did Plain)
      → (decision t u v w x did).answer.code
      ≡ first_failed (check SIZE t ∷ check SESSION u ∷ check KEY v ∷ check FULL w ∷ check LINE x ∷ [])
  unfolding decision finished shown first_failed
  key-code-of false u v w x did = refl
  key-code-of true false v w x did = refl
  key-code-of true true false w x did = refl
  key-code-of true true true false x did = refl
  key-code-of true true true true false did = refl
  key-code-of true true true true true did = refl

  pub key-code : (keyed s k b).answer.code ≡ first_failed (key_checks s k b)
  unfolding keyed key bounded decision
  key-code = key-code-of _ _ _ _ _ (pressed k (held s b.stores))

  -- 01, refusals: a key checks SIZE, SESSION, KEY, FULL, and 02, M-106, LINE after FULL; each number is given exactly when its check is the
  -- first to fail.
  pub key-size : ((keyed s k b).answer.code ≡ SIZE) ↔ (Passing [] × (tabled s.frame.h s.frame.w b ≡ false))
  key-size = rw key-code (exactly [] SIZE _ _ refl refl)

  pub key-session : ((keyed s k b).answer.code ≡ SESSION)
      ↔ (Passing (check SIZE (tabled s.frame.h s.frame.w b) ∷ []) × (is_session s b.stores ≡ false))
  key-session = rw key-code (exactly (check SIZE _ ∷ []) SESSION _ _ refl refl)

  pub key-key : ((keyed s k b).answer.code ≡ KEY)
      ↔ (Passing (check SIZE (tabled s.frame.h s.frame.w b) ∷ check SESSION (is_session s b.stores) ∷ [])
      × (sound_key (held s b.stores).mode k ≡ false))
  key-key = rw key-code (exactly (check SIZE _ ∷ check SESSION _ ∷ []) KEY _ _ refl refl)

  pub key-full : ((keyed s k b).answer.code ≡ FULL)
      ↔ (Passing
      (check SIZE (tabled s.frame.h s.frame.w b) ∷ check SESSION (is_session s b.stores) ∷ check KEY (sound_key (held s b.stores).mode k) ∷ [])
      × (fits (T b.stores) quarter (pressed k (held s b.stores)).state ≡ false))
  key-full = rw key-code (exactly (check SIZE _ ∷ check SESSION _ ∷ check KEY _ ∷ []) FULL _ _ refl refl)

  pub key-line : ((keyed s k b).answer.code ≡ LINE)
      ↔ (Passing
      (check SIZE (tabled s.frame.h s.frame.w b)
      ∷ check SESSION (is_session s b.stores)
      ∷ check KEY (sound_key (held s b.stores).mode k)
      ∷ check FULL (fits (T b.stores) quarter (pressed k (held s b.stores)).state)
      ∷ [])
      × (readable longest_line (pressed k (held s b.stores)).state ≡ false))
  key-line = rw key-code (exactly (check SIZE _ ∷ check SESSION _ ∷ check KEY _ ∷ check FULL _ ∷ []) LINE _ _ refl refl)

  pub key-accepted : ((keyed s k b).answer.code ≡ 0) ↔ Passing (key_checks s k b)
  key-accepted = rw key-code (accepted-exactly (key_checks s k b) refl)

  -- A refused key returns the record it was given and leaves all five stores; place, steps, bell, rows and cursor are 0.
  decision-leaves : (t u v w x : Bool) (did : Did Plain) → ((decision t u v w x did).answer.code ≡ 0 → ⊥)
      → decision t u v w x did ≡ turned_down s b (decision t u v w x did).answer.code
  unfolding decision finished shown
  decision-leaves false u v w x did bad = refl
  decision-leaves true false v w x did bad = refl
  decision-leaves true true false w x did bad = refl
  decision-leaves true true true false x did bad = refl
  decision-leaves true true true true false did bad = refl
  decision-leaves true true true true true did bad = absurd (bad refl)

  pub key-leaves : ((keyed s k b).answer.code ≡ 0 → ⊥) → keyed s k b ≡ turned_down s b (keyed s k b).answer.code
  unfolding keyed key bounded decision
  key-leaves bad =
      let p = held s b.stores in
      let did = pressed k p in
      decision-leaves (tabled s.frame.h s.frame.w b) (is_session s b.stores) (sound_key p.mode k)
      (fits (T b.stores) quarter did.state) (readable longest_line did.state) did bad
