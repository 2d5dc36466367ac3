-- One outcome: two outcomes that a promise allows for the same input are the same. The promises are those that the public calls ensure.
use Rattle.std.proofs.Common.{Result}
use Rattle.std.specs.Prelude.{IfOk}
use mathlib.Core.Path.{◌≡◌, sym, ap, ◌∙◌}
use mathlib.Core.List.{List}
use Prim.Native.Nat.{ℕ}
use Rattle.editor.specs.declared.refusals.Refusal.{Refusal}
use Rattle.window.specs.Words.{Key, Session}
use Rattle.window.specs.declared.Accepted.{Accepted}
use Rattle.window.specs.declared.Unopened.{Unopened}
use Rattle.window.specs.Rules.Core.{Lent, Called}
use Rattle.window.specs.Rules.Sending.{SendOutcome}
use Rattle.window.specs.declared.host.Record.{Record}
use Rattle.window.specs.Rules.Host.{Given, said_of, answer_from}
use Rattle.window.specs.Wording.Painter.{FromOne}
use Rattle.window.specs.Wording.Calls.{called, accepted_reply, open_reply, key_reply}
use Rattle.window.specs.Wording.Promise.{OpenPromise, KeyPromise, SendPromise, HostOpenPromise, HostKeyPromise}
use Rattle.window.proofs.Theorems.OverAndBack.{accepted_from, opened_from, pressed_from, accepted-over, open-over, press-over}

pub one-opening : (n H W : ℕ) (b : Lent) (o p : Called) → OpenPromise n H W b o → OpenPromise n H W b p → o ≡ p
one-opening n H W b o p e f = e ∙ sym f

pub one_key : (s : Session) (k : Key) (b : Lent) (o p : Called) → KeyPromise s k b o → KeyPromise s k b p → o ≡ p
one_key s k b o p e f = e ∙ sym f

-- The reply tells what the code answers, since rows that it names are numbered from 1 on: two accepted answers with the same reply are the same.
pub one-accepted : (a b : Accepted) → FromOne a.named → FromOne b.named → accepted_reply a ≡ accepted_reply b → a ≡ b
one-accepted a b low also same =
    sym (accepted-over a low) ∙ (ap (λ r. accepted_from (answer_from (said_of r.answer)) r.session) same ∙ accepted-over b also)

-- So two results that an opening ensures for the same input are the same, and so are the stores that they leave; likewise for a key.
pub one-opened : (n H W : ℕ) (b : Lent) (r s : Result Accepted Unopened) (p q : Lent)
    → OpenPromise n H W b (called (open_reply r) p) → IfOk r (λ a. FromOne a.named)
    → OpenPromise n H W b (called (open_reply s) q) → IfOk s (λ a. FromOne a.named)
    → (r ≡ s) × (p ≡ q)
one-opened n H W b r s p q e low f also =
    let same = one-opening n H W b (called (open_reply r) p) (called (open_reply s) q) e f in (
      sym (open-over r low) ∙ (ap (λ o. opened_from (answer_from (said_of o.answer)) o.session) same ∙ open-over s also),
      ap (λ o. o.lent) same,
    )

pub one-pressed : (at : Session) (k : Key) (b : Lent) (r s : Result Accepted Refusal) (p q : Lent)
    → KeyPromise at k b (called (key_reply at r) p) → IfOk r (λ a. FromOne a.named)
    → KeyPromise at k b (called (key_reply at s) q) → IfOk s (λ a. FromOne a.named)
    → (r ≡ s) × (p ≡ q)
one-pressed at k b r s p q e low f also =
    let same = one_key at k b (called (key_reply at r) p) (called (key_reply at s) q) e f in (
      sym (press-over at r low) ∙ (ap (λ o. pressed_from (answer_from (said_of o.answer)) o.session) same ∙ press-over at s also),
      ap (λ o. o.lent) same,
    )

-- The routine for terminals, and the boundary's painting, which promises the same.
pub one-sending : (H W first last row column : ℕ) (screen buffer : List ℕ) (o p : SendOutcome)
    → SendPromise H W first last row column screen buffer o → SendPromise H W first last row column screen buffer p → o ≡ p
one-sending H W first last row column screen buffer o p e f = e ∙ sym f

-- Opening and a key at the host's boundary.
pub one-host-opening : (n H W : ℕ) (b : Lent) (g h : Given) → HostOpenPromise n H W b g → HostOpenPromise n H W b h → g ≡ h
one-host-opening n H W b g h e f = e ∙ sym f

pub one-host-key : (n : Record) (kind a b c : ℕ) (lent : Lent) (g h : Given)
    → HostKeyPromise n kind a b c lent g → HostKeyPromise n kind a b c lent h → g ≡ h
one-host-key n kind a b c lent g h e f = e ∙ sym f
