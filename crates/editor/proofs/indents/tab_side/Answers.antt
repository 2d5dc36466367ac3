-- `tab_side`: one space, and those that are missing to the column behind it.
use native.Mathlib.Omega.{arith}
use lib.ListN.{length-take}
use Rattle.editor.proofs.Laws.SideEdits.{by-column}
use Rattle.editor.proofs.indents.tab_side.Goals as goal

pub slice_bounds-since_newline-end-2 : goal.slice_bounds-since_newline-end-2
slice_bounds-since_newline-end-2 c = simp length-take (omega arith)

pub since_newline-column-requires : goal.since_newline-column-requires
since_newline-column-requires c = simp length-take (omega arith)

pub returns : goal.returns
returns c = λ recall on. by-column on c.since_newline-column.ensures (c.spaced_side.ensures recall on)
