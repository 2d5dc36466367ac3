-- What the host is given, in numbers, is what the core's calls give.
use Rattle.std.specs.Prelude.{List, Bool, true, false, cond, ℕ, Option, Some, None, unwrap_or}
use mathlib.Core.Path.{◌≡◌, refl, ap, sym, ◌∙◌}
use Prim.Native.Nat.{◌≤◌, ◌<◌}
use borrow.Author.Tests.{le-leb, lt-leb}
use Rattle.editor.specs.Rules.Refusals.{SIZE, SESSION}
use Rattle.window.specs.Words.{Session, Key}
use Rattle.window.specs.Rules.Core.{Reply}
use Rattle.window.specs.declared.host.Record.{Record}
use Rattle.window.specs.declared.host.HostReply.{HostReply}
use Rattle.window.specs.Rules.Core.{Lent, refusal, tabled, opened, keyed}
use Rattle.window.specs.Wording.Calls.{lent, called, turned_down_reply}
use Rattle.window.specs.Rules.Host.{Given, session_from, record_from, key_from, said_of, given, numbers_of, given_of, host_opened, host_keyed}
use Rattle.window.specs.Rules.Host.{none, numbers, names}
use Rattle.window.proofs.Theorems.OverAndBack.{record-over, unnamed}

module _ {q : HostReply} (r : Reply) (now : Lent) (same : q ≡ numbers_of r) where
  pub opened-given : (n H W : ℕ) (b : Lent) → called r now ≡ opened n H W b → given q now ≡ host_opened n H W b
  unfolding host_opened
  opened-given n H W b e = ap (λ q. given q now) same ∙ ap given_of e

  -- A record whose mode is one is the core's session.
  pub keyed-given :
      (n : Record) (kind a b c : ℕ) (before : Lent) {s : Session} {k : Key} →
      n.mode ≤ 1 → s ≡ session_from n → k ≡ key_from kind a b c → called r now ≡ keyed s k before →
      given q now ≡ host_keyed n kind a b c before
  unfolding host_keyed
  keyed-given n kind a b c before mode s k e =
      rw (le-leb _ _ mode, ← s, ← k) (ap (λ q. given q now) same ∙ ap given_of e)

-- What a call leaves in the stores that it was lent is what the host finds in them.
pub ended :
    {q : HostReply} {o : Given} {text text_left recall recall_left held held_left side side_left screen : List ℕ} → text ≡ text_left
    → recall ≡ recall_left → held ≡ held_left → side ≡ side_left
    → given q (lent text_left recall_left held_left side_left screen) ≡ o → given q (lent text recall held side screen) ≡ o
ended text recall held side e = rw (text, recall, held, side) e

-- A refused key hands the numbers back as they were.
pub refused-numbers : {q : HostReply} (n : Record) (code : ℕ) {s : Session} → n.mode ≤ 1 → s ≡ session_from n
    → q ≡ record { said = said_of (refusal code 0); back = n } → q ≡ numbers_of (turned_down_reply code s)
refused-numbers n code mode is same =
    same
    ∙ λ i. record { said = said_of (refusal code 0); back = (sym ((record-over n).1 mode) ∙ ap record_from (sym is)) i }

-- Any other is refused, by whether the stores are as tabled.
pub no-mode-given :
    {q : HostReply} (n : Record) (kind a b c : ℕ) (before : Lent) (t : Bool) →
    1 < n.mode → t ≡ tabled n.rows n.columns before →
    q ≡ record { said = said_of (refusal (cond t SESSION SIZE) 0); back = n } →
    given q before ≡ host_keyed n kind a b c before
unfolding host_keyed
no-mode-given n kind a b c before t mode e same = rw (lt-leb _ _ mode, ← e) (ap (λ q. given q before) same)

-- The key that numbers name, or an insert that is refused where they name none, is the key that they are taken for.
pub named-or-none :
    (kind a b c : ℕ) {found : Option Key} {k : Key} →
    found ≡ cond (names (numbers kind a b c)) (Some (key_from kind a b c)) None → k ≡ unwrap_or found none →
    k ≡ key_from kind a b c
named-or-none kind a b c named e = e ∙ (ap (λ o. unwrap_or o none) named ∙ go (names (numbers kind a b c)) refl)
  where
    go : (is : Bool) → names (numbers kind a b c) ≡ is
        → unwrap_or (cond is (Some (key_from kind a b c)) None) none ≡ key_from kind a b c
    go true e = refl
    go false e = sym (unnamed (numbers kind a b c) e)
