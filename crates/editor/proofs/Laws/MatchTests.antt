-- Laws of a few bytes that show whether a pattern may stand at a place.
use mathlib.Core.Path.{◌≡◌}
use mathlib.Core.Logic.{⊎_elim}
use mathlib.Core.Bool.{true, false}
use mathlib.Core.List.{List}
use Prim.Native.Nat.{ℕ, ◌-◌, ◌<◌}
use native.Mathlib.Nat.{add-zero}
use native.Mathlib.Omega.{arith}
use lib.ListN.{length, drop, get_or}
use borrow.Author.Tests.{eq-eqb}
use Rattle.gap.specs.Rules.Sequence.{begins}
use Rattle.gap.proofs.Laws.Tests.{decided, clash, and_both}
use Rattle.gap.proofs.Laws.Compared.{byte-stands}
use Rattle.editor.specs.Wording.Searches.{likely_at}

-- A match is likely where there is one; and where it is not likely, there is none.
module _ (pattern text : List ℕ) (at k : ℕ) (inside : k < length pattern) where
  match-likely : begins pattern (drop at text) ≡ true → likely_at pattern k text at ≡ true
  match-likely here =
      let stands = byte-stands pattern text at here in
      let first : get_or text at 0 ≡ get_or pattern 0 0 = rw add-zero at (stands 0 (omega arith)) in
      and_both (and_both (eq-eqb _ _ first) (eq-eqb _ _ (stands k inside))) (eq-eqb _ _ (stands (length pattern - 1) (omega arith)))

  pub unlikely : likely_at pattern k text at ≡ false → begins pattern (drop at text) ≡ false
  unlikely e = ⊎_elim (λ here. clash (match-likely here) e) (λ no. no) (decided (begins pattern (drop at text)))
