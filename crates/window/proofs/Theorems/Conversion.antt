-- The conversion (02, M-109): refusals in order and what they leave, one outcome, the same plain state, a session that every key continues,
-- and SIZE for old lengths from every other call. Then the same at the host's boundary.
use mathlib.Core.Path.{◌≡◌, refl, sym, ap, ◌∙◌}
use mathlib.Core.Logic.{⊎_elim, ◌↔◌}
use mathlib.Core.Bool.{Bool, true, false, cond}
use mathlib.Core.List.{List, [], ◌∷◌}
use Prim.Native.Nat.{ℕ, ◌*◌}
use native.Mathlib.Omega.{arith}
use lib.Dec.{leb}
use lib.ListN.{length}
use borrow.Author.Tests.{eq-eqb, leb-true}
use Rattle.gap.specs.Rules.Sequence.{every, same_bytes, part, zeros}
use Rattle.gap.specs.Rules.Lines.{newlines, since_after, lines}
use Rattle.gap.specs.Rules.LineLimits.{none_longer, lines_fit}
use Rattle.gap.specs.Rules.Layout.{ungap, unpair, sound_gap, sound_pair}
use Rattle.gap.specs.Tables.Sentence.{all_of, broken, itself}
use Rattle.gap.specs.Rules.Checks.{check, first_failed, Passing}
use Rattle.gap.proofs.Laws.Tests.{decided, and_both, and_right, cond-true, cond-false}
use Rattle.gap.proofs.Laws.Order.{exactly, accepted-exactly}
use Rattle.editor.specs.Rules.LongLines.{longest_line}
use Rattle.editor.specs.Rules.Refusals.{SIZE, SESSION}
use Rattle.editor.specs.Rules.Keys.{key}
use Rattle.editor.specs.Rules.Bytes.{Stores, quarter, sized, plain_of, editor_ok}
use Rattle.editor.specs.Rules.Conversion.{old_quarter, converted_side, converted_stores}
use Rattle.editor.specs.Wording.Promise.{Sound}
use Rattle.editor.proofs.Theorems.Conversion as editor
use Rattle.window.specs.Words.{Key, Session}
use Rattle.window.specs.declared.host.Record.{Record}
use Rattle.window.specs.Rules.Window.{virtual, virtual_in, visible}
use Rattle.window.specs.Rules.Core.{Lent, tabled, session_in, is_session, held, opened, finished, keyed}
use Rattle.window.specs.Rules.Conversion.{convertible, was_session, Converted, answering, conversion_checks, converted}
use Rattle.window.specs.Rules.Host.{session_from, record_from, KeyNumbers, host_opened, host_pressed}
use Rattle.window.specs.Rules.HostConversion.{HostConverted, host_answering, converted_numbers, was_host_session, host_converted, host_conversion_checks}
use Rattle.window.specs.Wording.Conversion.{ConvertPromise, HostConvertPromise}
use Rattle.window.proofs.Laws.Conversion as law
use Rattle.window.proofs.Laws.Views.{session-keyed}
use Rattle.window.proofs.Theorems.Refusals.{opening-size, key-size}
use Rattle.window.proofs.Theorems.Sizes.{tabled-exactly}
use Rattle.window.proofs.Theorems.OverAndBack.{record-over}
use Rattle.window.proofs.Theorems.Boundary.{host-key-size}
use Rattle.window.specs.Tables.ConversionPins.{convert_pins}

-- ---- Refusals

module _ (s : Session) (b : Stores) (side : List ℕ) where
  decision : Bool → Bool → List ℕ → Converted
  decision t u new = cond t (cond u (answering s 0 new) (answering s SESSION side)) (answering s SIZE side)

  code_of : (t u : Bool) (new : List ℕ) → (decision t u new).answer.code ≡ first_failed (check SIZE t ∷ check SESSION u ∷ [])
  unfolding decision first_failed
  code_of false u new = refl
  code_of true false new = refl
  code_of true true new = refl

  pub convert-code : (converted s b side).answer.code ≡ first_failed (conversion_checks s b side)
  unfolding converted decision
  convert-code = code_of _ _ (converted_side old_quarter quarter s.lengths b)

  -- SIZE, then SESSION by the old rule, then 0, each exactly when.
  pub convert-size : ((converted s b side).answer.code ≡ SIZE) ↔ (Passing [] × (convertible s.frame.h s.frame.w b side ≡ false))
  convert-size = rw convert-code (exactly [] SIZE _ _ refl refl)

  pub convert-session : ((converted s b side).answer.code ≡ SESSION)
      ↔ (Passing (check SIZE (convertible s.frame.h s.frame.w b side) ∷ []) × (was_session s b ≡ false))
  convert-session = rw convert-code (exactly (check SIZE _ ∷ []) SESSION _ _ refl refl)

  pub convert-accepted : ((converted s b side).answer.code ≡ 0) ↔ Passing (conversion_checks s b side)
  convert-accepted = rw convert-code (accepted-exactly (conversion_checks s b side) refl)

  -- Refused, no byte changes; in any case the record comes back as given.
  leaves_of : (t u : Bool) (new : List ℕ) → ((decision t u new).answer.code ≡ 0 → ⊥)
      → decision t u new ≡ answering s (decision t u new).answer.code side
  unfolding decision
  leaves_of false u new bad = refl
  leaves_of true false new bad = refl
  leaves_of true true new bad = absurd (bad refl)

  pub convert-leaves : ((converted s b side).answer.code ≡ 0 → ⊥) → converted s b side ≡ answering s (converted s b side).answer.code side
  unfolding converted decision
  convert-leaves bad =
      leaves_of (convertible s.frame.h s.frame.w b side) (was_session s b) (converted_side old_quarter quarter s.lengths b) bad

  back-of : (t u : Bool) (new : List ℕ) → (decision t u new).session ≡ s
  unfolding decision
  back-of false u new = refl
  back-of true false new = refl
  back-of true true new = refl

  pub convert-hands-back : (converted s b side).session ≡ s
  unfolding converted decision
  convert-hands-back = back-of (convertible s.frame.h s.frame.w b side) (was_session s b) (converted_side old_quarter quarter s.lengths b)

-- ---- One outcome

pub one-conversion : (s : Session) (b : Stores) (side : List ℕ) (o p : Converted) → ConvertPromise s b side o → ConvertPromise s b side p → o ≡ p
one-conversion s b side o p e f = e ∙ sym f

pub one-host-conversion : (n : Record) (b : Stores) (side : List ℕ) (g h : HostConverted)
    → HostConvertPromise n b side g → HostConvertPromise n b side h → g ≡ h
one-host-conversion n b side g h e f = e ∙ sym f

-- ---- What an accepted conversion gives

module _ (s : Session) (b : Stores) (side : List ℕ) (accepted : (converted s b side).answer.code ≡ 0) where
  passing : (convertible s.frame.h s.frame.w b side ≡ true) × (session_in old_quarter s b ≡ true)
  unfolding was_session
  passing = let (fit, (ok, _)) = (convert-accepted s b side).0 accepted in (fit, ok)

  sound : Sound old_quarter s.lengths b
  sound = law.old-sound s b side passing.0 passing.1

  -- The stores that the host goes on with: the old ones with the new side store.
  abbrev pub new_stores : Stores
  new_stores = record { text = b.text; recall = b.recall; held = b.held; side = (converted s b side).side }

  -- The new side store holds what the definition says, whatever it held before.
  pub converted-side : (converted s b side).side ≡ converted_side old_quarter quarter s.lengths b
  unfolding converted was_session
  converted-side = ap {A = Converted} (λ o. o.side) (cond-true _ _ passing.0 ∙ cond-true _ _ passing.1)

  same : new_stores ≡ converted_stores old_quarter quarter s.lengths b
  same = ap (λ new. record { text = b.text; recall = b.recall; held = b.held; side = new }) converted-side

  -- The plain state read from the new stores with the same record is the one read from the old.
  pub converted-holds : held s new_stores ≡ plain_of old_quarter s.lengths b
  converted-holds = ap (held s) same ∙ editor.converted-plain old_quarter quarter s.lengths b editor.quarters-grow sound

  -- What comes out is a session.
  new-sound : Sound quarter s.lengths (converted_stores old_quarter quarter s.lengths b)
  new-sound = editor.converted-sound old_quarter quarter s.lengths b editor.quarters-grow sound

  pub converted-session : is_session s new_stores ≡ true
  unfolding is_session
  converted-session =
      and_both (ap (editor_ok quarter s.lengths) same ∙ new-sound.ok)
      (ap (λ p. visible s.frame (virtual p)) converted-holds ∙ and_right (editor_ok old_quarter s.lengths b) _ passing.1)

  -- And every key continues it, on any screen of its size: it does what the plain editor does on the plain state of the old session.
  module _ (screen : List ℕ) (long : length screen ≡ s.frame.h * s.frame.w) where
    abbrev pub new_lent : Lent
    new_lent = record { stores = new_stores; screen = screen }

    pub converted-tabled : tabled s.frame.h s.frame.w new_lent ≡ true
    unfolding tabled
    converted-tabled = and_both (ap (sized quarter) same ∙ new-sound.tabled) (and_both (law.frame-tabled s b side passing.0) (eq-eqb _ _ long))

    pub converted-keyed : (k : Key) → keyed s k new_lent ≡ finished s new_lent (key (length b.text) quarter k (plain_of old_quarter s.lengths b))
    converted-keyed k =
        session-keyed s k new_lent converted-tabled converted-session
        ∙ ap (λ p. finished s new_lent (key (length b.text) quarter k p)) converted-holds

-- ---- Old lengths

-- A side store of 1,024 bytes gets SIZE from opening and from every key.
old-untabled : (H W : ℕ) (b : Lent) → length b.stores.side ≡ 1024 → tabled H W b ≡ false
old-untabled H W b old =
    ⊎_elim (λ fit. absurd (omega (arith, ((tabled-exactly H W b).0 fit).side, old))) (λ none. none) (decided (tabled H W b))

pub old-opening : (n H W : ℕ) (b : Lent) → length b.stores.side ≡ 1024 → (opened n H W b).answer.code ≡ SIZE
old-opening n H W b old = (opening-size n H W b).1 (tt, old-untabled H W b old)

pub old-key : (s : Session) (k : Key) (b : Lent) → length b.stores.side ≡ 1024 → (keyed s k b).answer.code ≡ SIZE
old-key s k b old = (key-size s k b).1 (tt, old-untabled s.frame.h s.frame.w b old)

-- ---- At the host's boundary

no-mode-code : (t : Bool) → cond t SESSION SIZE ≡ first_failed (check SIZE t ∷ check SESSION false ∷ [])
unfolding first_failed
no-mode-code true = refl
no-mode-code false = refl

module _ (n : Record) (b : Stores) (side : List ℕ) where
  in-mode : leb n.mode 1 ≡ true → host_converted n b side ≡ converted_numbers (converted (session_from n) b side)
  unfolding host_converted
  in-mode low = cond-true _ _ low

  off-mode : leb n.mode 1 ≡ false
      → host_converted n b side ≡ host_answering n (cond (convertible n.rows n.columns b side) SESSION SIZE) side
  unfolding host_converted
  off-mode high = cond-false _ _ high

  pub host-convert-code : (host_converted n b side).said.code ≡ first_failed (host_conversion_checks n b side)
  host-convert-code =
      ⊎_elim
      (λ low. ap (λ g. g.said.code) (in-mode low) ∙ (convert-code (session_from n) b side ∙ rw low))
      (λ high. ap (λ g. g.said.code) (off-mode high) ∙ rw high (no-mode-code (convertible n.rows n.columns b side)))
      (decided (leb n.mode 1))

  -- SIZE, SESSION and 0, each exactly when; a mode that is none is no session.
  pub host-convert-size : ((host_converted n b side).said.code ≡ SIZE) ↔ (Passing [] × (convertible n.rows n.columns b side ≡ false))
  host-convert-size = rw host-convert-code (exactly [] SIZE _ _ refl refl)

  pub host-convert-session : ((host_converted n b side).said.code ≡ SESSION)
      ↔ (Passing (check SIZE (convertible n.rows n.columns b side) ∷ []) × (was_host_session n b ≡ false))
  host-convert-session = rw host-convert-code (exactly (check SIZE _ ∷ []) SESSION _ _ refl refl)

  pub host-convert-accepted : ((host_converted n b side).said.code ≡ 0) ↔ Passing (host_conversion_checks n b side)
  host-convert-accepted = rw host-convert-code (accepted-exactly (host_conversion_checks n b side) refl)

  -- Number for number the record comes back as given; refused, no byte changes.
  pub host-convert-hands-back : (host_converted n b side).back ≡ n
  host-convert-hands-back =
      ⊎_elim
      (λ low.
      ap (λ g. g.back) (in-mode low)
      ∙ (ap record_from (convert-hands-back (session_from n) b side) ∙ (record-over n).1 (leb-true n.mode 1 low)))
      (λ high. ap (λ g. g.back) (off-mode high))
      (decided (leb n.mode 1))

  pub host-convert-leaves : ((host_converted n b side).said.code ≡ 0 → ⊥) → (host_converted n b side).side ≡ side
  host-convert-leaves bad =
      ⊎_elim
      (λ low.
      let code : (host_converted n b side).said.code ≡ (converted (session_from n) b side).answer.code = ap (λ g. g.said.code) (in-mode low) in
      ap (λ g. g.side) (in-mode low) ∙ ap (λ o. o.side) (convert-leaves (session_from n) b side (λ e. bad (code ∙ e))))
      (λ high. ap (λ g. g.side) (off-mode high))
      (decided (leb n.mode 1))

-- Old lengths there.
pub old-host-opening : (n H W : ℕ) (b : Lent) → length b.stores.side ≡ 1024 → (host_opened n H W b).said.code ≡ SIZE
unfolding host_opened
old-host-opening n H W b old = old-opening n H W b old

pub old-host-key : (n : Record) (x : KeyNumbers) (b : Lent) → length b.stores.side ≡ 1024 → (host_pressed n x b).said.code ≡ SIZE
old-host-key n x b old = (host-key-size n x b).1 (tt, old-untabled n.rows n.columns b old)

-- The definitions give each example of the table.
pub conversions-pinned : broken itself convert_pins ≡ []
unfolding every same_bytes part zeros newlines since_after ungap unpair sound_gap sound_pair all_of broken quarter old_quarter sized plain_of editor_ok
    lines lines_fit none_longer longest_line virtual_in visible convertible was_session converted
conversions-pinned = refl
