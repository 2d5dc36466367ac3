-- Laws of blocks: which one a call's answer asks for, and that an accepted call's screen can be printed.
use mathlib.Core.Path.{◌≡◌, sym, ap, ◌∙◌}
use mathlib.Core.Bool.{true, ◌&&◌}
use mathlib.Core.List.{List}
use Prim.Native.Nat.{ℕ}
use lib.Dec.{leb}
use lib.ListN.{length}
use borrow.Author.Tests.{leb-true}
use Rattle.gap.proofs.Laws.Tests.{and_left, and_right}
use Rattle.editor.specs.declared.Key.{Key}
use Rattle.window.specs.declared.Session.{Session}
use Rattle.window.specs.Rules.Core.{Lent, Called, tabled, opened, keyed}
use Rattle.window.proofs.Laws.Views.{tabled-facts}
use Rattle.window.proofs.Theorems.Refusals.{opening-accepted, key-accepted}
use Rattle.bench.specs.Wording.Turns.{Printable}

-- An accepted call's screen can be printed.
tabled-printable : (H W : ℕ) (b : Lent) (screen : List ℕ) → length screen ≡ length b.screen → tabled H W b ≡ true → Printable H W screen
tabled-printable H W b screen same fit =
    let facts = tabled-facts H W b fit in
    record {
      rows = leb-true H 64 (and_right (leb 1 H) _ (and_left (leb 1 H && leb H 64) _ facts.frame));
      columns = leb-true W 256 (and_right (leb 1 W) _ (and_right (leb 1 H && leb H 64) _ facts.frame));
      long = same ∙ facts.long;
    }

pub opened-printable : (n H W : ℕ) (b : Lent) (o : Called) → o ≡ opened n H W b → (screen : List ℕ) → length screen ≡ length b.screen
    → o.answer.code ≡ 0 → Printable H W screen
opened-printable n H W b o e screen same good =
    tabled-printable H W b screen same ((opening-accepted n H W b).0 (ap (λ x. x.answer.code) (sym e) ∙ good)).0

pub keyed-printable : (s : Session) (k : Key) (b : Lent) (o : Called) → o ≡ keyed s k b → (screen : List ℕ)
    → length screen ≡ length b.screen → o.answer.code ≡ 0 → Printable s.frame.h s.frame.w screen
keyed-printable s k b o e screen same good =
    tabled-printable s.frame.h s.frame.w b screen same ((key-accepted s k b).0 (ap (λ x. x.answer.code) (sym e) ∙ good)).0
