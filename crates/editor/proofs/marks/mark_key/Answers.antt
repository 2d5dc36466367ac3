-- `mark_key` changes nothing but the mark.
use mathlib.Core.Path.{refl}
use Rattle.editor.specs.Rules.Bytes.{quarter}
use Rattle.editor.proofs.Laws.Holding.{mark-done}
use Rattle.editor.proofs.marks.mark_key.Goals as goal

pub returns : goal.returns
returns c = λ b sound. mark-done quarter _ b sound refl refl c.marked_at.ensures
