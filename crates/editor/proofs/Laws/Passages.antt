-- Laws of the newlines that a search passes: the run of bytes in which the code counts is what the moves cross.
use Rattle.std.proofs.Common.{Option, Some, None}
use mathlib.Core.Path.{◌≡◌, sym, ap, ◌∙◌}
use Prim.Native.Nat.{ℕ}
use Rattle.gap.specs.Rules.Doc.{Doc, passed}
use Rattle.gap.specs.Rules.Lines.{newlines}
use Rattle.editor.specs.Words.{Direction}
use Rattle.editor.specs.Rules.Passages.{with_lines}

-- A distance with its lines, by what the code has found out of the distance.
module _ (way : Direction) (doc : Doc) {answer : Option ℕ} where
  pub lines-nowhere : answer ≡ None → None ≡ with_lines way doc answer
  unfolding with_lines
  lines-nowhere e = sym (ap (with_lines way doc) e)

  pub lines-reached : {d n : ℕ} → answer ≡ Some d → n ≡ newlines (passed way d doc) → Some (record { steps = d; lines = n }) ≡ with_lines way doc answer
  unfolding with_lines
  lines-reached {d = d} e counted = ap (λ n. Some (record { steps = d; lines = n })) counted ∙ sym (ap (with_lines way doc) e)
