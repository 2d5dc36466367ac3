-- The routine for terminals: each refusal exactly when M-100 says, in its order, and what is written. (02, M-100: refusals.)
use Rattle.std.proofs.Common.{Option, Some, None}
use mathlib.Core.Path.{◌≡◌, refl, ap, subst⁻¹, ◌∙◌}
use mathlib.Core.Logic.{◌↔◌}
use mathlib.Core.Bool.{Bool, true, false, not, cond}
use mathlib.Core.List.{List, [], ◌∷◌}
use Prim.Native.Nat.{ℕ, ◌≤◌}
use native.Mathlib.Nat.{le_refl}
use native.Mathlib.Omega.{arith}
use lib.Dec.{leb}
use lib.ListN.{length, get_or}
use lib.Seq.{take-length}
use borrow.Author.Tests.{leb-true}
use Rattle.gap.specs.Rules.Checks.{Check, check, first_failed, Passing}
use Rattle.gap.specs.Rules.Sequence.{every, patch}
use Rattle.gap.specs.Rules.Layout.{printable}
use Rattle.gap.specs.Wording.Written.{Wrote}
use Rattle.gap.proofs.Laws.Nearest.{Least, reached-least}
use Rattle.gap.proofs.Laws.Writers.{wrote-length, wrote-front, wrote-behind}
use Rattle.editor.specs.Rules.Refusals.{SIZE, TEXT, ROOM}
use Rattle.window.specs.Rules.Sequences.{sent_screen}
use Rattle.window.specs.Rules.Sending.{SendOutcome, sendable, bad_cell, unsent, sent_front, unless_bad_cell, sending, Fronted}
use Rattle.window.specs.Rules.Refusals.{send_checks}
use Rattle.gap.proofs.Laws.Order.{exactly, accepted-exactly}
use Rattle.window.proofs.Theorems.Refusals.{none, none-fails}

run-fronted : (run old : List ℕ) → length run ≤ length old → Fronted run old (length run) (patch 0 run old)
run-fronted run old fits =
    let wrote : Wrote 0 run old (length run) (patch 0 run old) = record { fits = omega arith; place = omega arith; bytes = refl } in
    record { front = wrote-front wrote; behind = wrote-behind wrote; long = wrote-length wrote }

module _ (H W first last row column : ℕ) (screen buffer : List ℕ) where
  abbrev run : List ℕ
  run = sent_screen W first last row column screen

  abbrev fit : Bool
  fit = sendable H W first last row column screen

  abbrev answer : SendOutcome
  answer = sending H W first last row column screen buffer

  abbrev checks : List Check
  checks = send_checks H W first last row column screen buffer

  -- What is answered, by the three tests.
  choice : Bool → Option ℕ → Bool → SendOutcome
  choice t s u = cond t (unless_bad_cell s buffer (cond u (sent_front run buffer) (unsent ROOM 0 buffer))) (unsent SIZE 0 buffer)

  code_of : (t : Bool) (s : Option ℕ) (u : Bool)
      → (choice t s u).code ≡ first_failed (check SIZE t ∷ check TEXT (none s) ∷ check ROOM u ∷ [])
  unfolding choice first_failed
  code_of false s u = refl
  code_of true (Some i) u = refl
  code_of true None false = refl
  code_of true None true = refl

  -- No bad cell is found exactly when every byte of the screen is printed.
  no-bad-cell : none (bad_cell screen) ≡ every printable screen
  no-bad-cell = none-fails printable (length screen) screen (le_refl _) ∙ ap (every printable) (take-length screen)

  pub sending-code : answer.code ≡ first_failed checks
  unfolding sending choice
  sending-code =
      code_of fit (bad_cell screen) (leb (length run) (length buffer))
      ∙ ap (λ t. first_failed (check SIZE fit ∷ check TEXT t ∷ check ROOM (leb (length run) (length buffer)) ∷ [])) no-bad-cell

  -- SIZE, TEXT and ROOM, each exactly when its check is the first to fail.
  pub sending-size : (answer.code ≡ SIZE) ↔ (Passing [] × (fit ≡ false))
  sending-size = rw sending-code (exactly [] SIZE _ _ refl refl)

  pub sending-text : (answer.code ≡ TEXT) ↔ (Passing (check SIZE fit ∷ []) × (every printable screen ≡ false))
  sending-text = rw sending-code (exactly (check SIZE _ ∷ []) TEXT _ _ refl refl)

  pub sending-room : (answer.code ≡ ROOM)
      ↔ (Passing (check SIZE fit ∷ check TEXT (every printable screen) ∷ []) × (leb (length run) (length buffer) ≡ false))
  sending-room = rw sending-code (exactly (check SIZE _ ∷ check TEXT _ ∷ []) ROOM _ _ refl refl)

  pub sending-accepted : (answer.code ≡ 0) ↔ Passing checks
  sending-accepted = rw sending-code (accepted-exactly checks refl)

  -- For TEXT, place is the first index whose byte is not printed; otherwise it is 0.
  places : (t : Bool) (s : Option ℕ) (u : Bool) → (choice t s u).code ≡ TEXT → s ≡ Some (choice t s u).place
  unfolding choice
  places false s u e = absurd (omega (arith, e))
  places true (Some i) u e = refl
  places true None false e = absurd (omega (arith, e))
  places true None true e = absurd (omega (arith, e))

  pub sending-place : answer.code ≡ TEXT → Least (λ i. not (printable (get_or screen i 0))) (length screen) 0 answer.place
  unfolding sending choice
  sending-place e = reached-least _ (length screen) 0 _ (places fit (bad_cell screen) (leb (length run) (length buffer)) e)

  no_place : (t : Bool) (s : Option ℕ) (u : Bool) → ((choice t s u).code ≡ TEXT → ⊥) → (choice t s u).place ≡ 0
  unfolding choice
  no_place false s u other = refl
  no_place true (Some i) u other = absurd (other refl)
  no_place true None false other = refl
  no_place true None true other = refl

  pub sending-no-place : (answer.code ≡ TEXT → ⊥) → answer.place ≡ 0
  unfolding sending choice
  sending-no-place other = no_place fit (bad_cell screen) (leb (length run) (length buffer)) other

  -- Refused, nothing is written: the count is 0, and the buffer is as it was.
  leaves : (t : Bool) (s : Option ℕ) (u : Bool) → ((choice t s u).code ≡ 0 → ⊥)
      → choice t s u ≡ unsent (choice t s u).code (choice t s u).place buffer
  unfolding choice
  leaves false s u bad = refl
  leaves true (Some i) u bad = refl
  leaves true None false bad = refl
  leaves true None true bad = absurd (bad refl)

  pub sending-leaves : (answer.code ≡ 0 → ⊥) → answer ≡ unsent answer.code answer.place buffer
  unfolding sending choice
  sending-leaves bad = leaves fit (bad_cell screen) (leb (length run) (length buffer)) bad

  -- Accepted, the bytes stand at the front of the buffer, which has room for them.
  accepts : (t : Bool) (s : Option ℕ) (u : Bool) → (choice t s u).code ≡ 0 → choice t s u ≡ sent_front run buffer
  unfolding choice
  accepts false s u e = absurd (omega (arith, e))
  accepts true (Some i) u e = absurd (omega (arith, e))
  accepts true None false e = absurd (omega (arith, e))
  accepts true None true e = refl

  pub sending-done : answer.code ≡ 0 → answer ≡ sent_front run buffer
  unfolding sending choice
  sending-done e = accepts fit (bad_cell screen) (leb (length run) (length buffer)) e

  pub sending-writes : answer.code ≡ 0 → Fronted run buffer answer.count answer.buffer
  sending-writes e =
      let room = leb-true (length run) (length buffer) (sending-accepted.0 e).1.1.0 in
      subst⁻¹ (λ p. Fronted run buffer p.count p.buffer) (sending-done e) (run-fronted run buffer room)
