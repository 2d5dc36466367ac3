-- A search for a place gives the distance and the newlines that it passes. (02, M-104: lines crossed.)
use Rattle.std.specs.Prelude.{Bool, ℕ, Option, Some, None}
use Rattle.editor.specs.Words.{Direction, Passage}
use Rattle.gap.specs.Rules.Doc.{Doc, passed}
use Rattle.gap.specs.Rules.Lines.{newlines}
use Rattle.gap.specs.Rules.Nearest.{distance}

-- The newlines among the bytes that n moves cross; n deletions take the same bytes away. (02, M-104: over the same d steps.)
abbrev pub lines_passed : Direction → ℕ → Doc → ℕ
lines_passed way n d = newlines (passed way n d)

unfoldable pub with_lines : Direction → Doc → Option ℕ → Option Passage
with_lines way d (Some n) = Some (record { steps = n; lines = lines_passed way n d })
with_lines way d None = None

unfoldable pub passage_to : Direction → (Doc → Bool) → Doc → Option Passage
passage_to way place d = with_lines way d (distance way place d)
