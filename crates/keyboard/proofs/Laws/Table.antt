-- Which key the table gives for a byte alone.
use mathlib.Core.Path.{◌≡◌, refl, ap}
use mathlib.Core.Logic.{⊎_elim}
use mathlib.Core.Bool.{true, false}
use Prim.Native.Nat.{ℕ, ◌≤◌}
use native.Mathlib.Omega.{arith}
use lib.Dec.{eqb}
use borrow.Author.Tests.{eqb-true, eq-eqb, ne_eqb, le-leb}
use Rattle.gap.specs.Rules.Sequence.{same_bytes}
use Rattle.gap.specs.Rules.Layout.{printable}
use Rattle.gap.proofs.Laws.Tests.{decided}
use Rattle.keyboard.specs.Words.{Insert, Pressed, Refused}
use Rattle.keyboard.specs.Rules.Refusals.{SEQUENCE}
use Rattle.keyboard.specs.Rules.Keyboard.{bytes_of, key_among, byte_received}

module _ (b : ℕ) (other : b ≡ 13 → ⊥) where
  pub byte-printed : 32 ≤ b → b ≤ 126 → byte_received b ≡ Pressed (Insert b) 1
  unfolding byte_received key_among bytes_of same_bytes
  byte-printed low high =
      rw (ne_eqb b 13 other, ne_eqb b 10 (λ e. omega (arith, e)), le-leb 32 b low, le-leb b 126 high, eq-eqb b b refl)

  pub byte-stray : (b ≡ 127 → ⊥) → printable b ≡ false → byte_received b ≡ Refused SEQUENCE 1
  unfolding byte_received key_among bytes_of same_bytes
  byte-stray last out =
      let ten : eqb b 10 ≡ true → byte_received b ≡ Refused SEQUENCE 1 = λ same. ap byte_received (eqb-true b 10 same) in
      let none : eqb b 10 ≡ false → byte_received b ≡ Refused SEQUENCE 1 = λ differs. rw (ne_eqb b 13 other, differs, out, ne_eqb b 127 last) in
      ⊎_elim ten none (decided (eqb b 10))
