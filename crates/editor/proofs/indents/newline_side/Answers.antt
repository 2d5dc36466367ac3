-- `newline_side`: the spaces behind the newline are those that the line has left of the cursor.
use native.Mathlib.Omega.{arith}
use lib.ListN.{length-take}
use Rattle.editor.proofs.Laws.SideEdits.{by-indent}
use Rattle.editor.proofs.indents.newline_side.Goals as goal

pub slice_bounds-line_indent-end-2 : goal.slice_bounds-line_indent-end-2
slice_bounds-line_indent-end-2 c = simp length-take (omega arith)

pub returns : goal.returns
returns c = λ recall on. by-indent on c.line_indent-k.ensures (c.spaced_side.ensures recall on)
