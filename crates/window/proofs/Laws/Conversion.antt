-- The conversion: what its tests tell, and its outcome from them.
use mathlib.Core.Path.{◌≡◌, sym, ap, ◌∙◌}
use mathlib.Core.Bool.{Bool, true, false, cond}
use mathlib.Core.List.{List}
use Prim.Native.Nat.{ℕ, ◌+◌, ◌*◌, ◌≤◌, ◌<◌}
use lib.ListN.{length}
use borrow.Author.Tests.{eqb-true, le-leb, lt-leb}
use Rattle.gap.proofs.Laws.Tests.{and_left, and_right, cond-true, cond-false}
use Rattle.editor.specs.Rules.Refusals.{SIZE, SESSION}
use Rattle.editor.specs.Rules.Bytes.{Stores, quarter, sized}
use Rattle.editor.specs.Rules.Conversion.{old_quarter}
use Rattle.editor.specs.Wording.Promise.{Sound}
use Rattle.editor.specs.Wording.Conversion.{lengthened}
use Rattle.editor.proofs.Laws.Fitting.{fitting}
use Rattle.editor.proofs.Laws.Conversion.{old-shorter, lengthened-converts}
use Rattle.window.specs.Words.{Session}
use Rattle.window.specs.Rules.Core.{Reply}
use Rattle.window.specs.declared.host.Record.{Record}
use Rattle.window.specs.declared.host.HostReply.{HostReply}
use Rattle.window.specs.Rules.Core.{refusal, rows_and_columns, session_in}
use Rattle.window.specs.Rules.Host.{session_from, said_of, numbers_of}
use Rattle.window.specs.Rules.HostConversion.{handed_back, converted_numbers, host_converted}
use Rattle.window.specs.Rules.Conversion.{convertible, was_session, converted}
use Rattle.window.specs.Wording.Conversion.{conversion, answered_reply}

module _ (s : Session) (b : Stores) (side : List ℕ) where
  pub size-refused : convertible s.frame.h s.frame.w b side ≡ false → {r : Reply} → r ≡ answered_reply SIZE s
      → conversion r side ≡ converted s b side
  unfolding converted
  size-refused e same = ap (λ q. conversion q side) same ∙ sym (cond-false _ _ e)

  module _ (fit : convertible s.frame.h s.frame.w b side ≡ true) where
    pub session-refused : session_in old_quarter s b ≡ false → {r : Reply} → r ≡ answered_reply SESSION s → conversion r side ≡ converted s b side
    unfolding converted was_session
    session-refused e same = ap (λ q. conversion q side) same ∙ sym (cond-true _ _ fit ∙ cond-false _ _ e)

    -- What is known of the lent stores.
    pub old-sized : sized old_quarter b ≡ true
    unfolding convertible
    old-sized = and_left (sized old_quarter b) _ fit

    pub frame-tabled : rows_and_columns s.frame.h s.frame.w ≡ true
    unfolding convertible
    frame-tabled = and_left (rows_and_columns s.frame.h s.frame.w) _ (and_right (sized old_quarter b) _ fit)

    pub new-long : length side ≡ 4 * quarter
    unfolding convertible
    new-long = eqb-true _ _ (and_right (rows_and_columns s.frame.h s.frame.w) _ (and_right (sized old_quarter b) _ fit))

    module _ (ok : session_in old_quarter s b ≡ true) where
      pub old-sound : Sound old_quarter s.lengths b
      old-sound = record { tabled = old-sized; ok = and_left _ _ ok }

      -- So the quarters can be lengthened, and that gives the outcome.
      pub lengthen-asked : ((length b.side ≡ 4 * old_quarter) × (length side ≡ 4 * quarter)) × (s.lengths.quoted.l + s.lengths.quoted.r ≤ old_quarter)
      lengthen-asked =
          let fits = fitting old_quarter s.lengths b old-sound in
          ((fits.side, new-long), fits.quotation)

      pub lengthened-done : {r : Reply} {then : List ℕ} → r ≡ answered_reply 0 s
          → then ≡ lengthened old_quarter quarter s.lengths.quoted.l s.lengths.quoted.r b.side → conversion r then ≡ converted s b side
      unfolding converted was_session
      lengthened-done same bytes =
          let side_then = bytes ∙ lengthened-converts old_quarter quarter s.lengths b old-shorter old-sound in
          (λ i. conversion (same i) (side_then i)) ∙ sym (cond-true _ _ fit ∙ cond-true _ _ ok)

-- ---- In numbers

-- A record whose mode is one is the core's session.
pub converted-given : {q : HostReply} {r : Reply} {then : List ℕ} → q ≡ numbers_of r
    → (n : Record) (b : Stores) (side : List ℕ) {s : Session} → n.mode ≤ 1 → s ≡ session_from n → conversion r then ≡ converted s b side
    → handed_back q then ≡ host_converted n b side
unfolding host_converted
converted-given {then = then} same n b side mode s e = rw (le-leb _ _ mode, ← s) (ap (λ q. handed_back q then) same ∙ ap converted_numbers e)

-- Any other is refused, by whether the stores are as tabled.
pub no-mode-converted : {q : HostReply} (n : Record) (b : Stores) (side : List ℕ) (t : Bool) → 1 < n.mode
    → t ≡ convertible n.rows n.columns b side → q ≡ record { said = said_of (refusal (cond t SESSION SIZE) 0); back = n }
    → handed_back q side ≡ host_converted n b side
unfolding host_converted
no-mode-converted n b side t mode e same = rw (lt-leb _ _ mode, ← e) (ap (λ q. handed_back q side) same)
