-- `paste_key` is a RECALL of the held pair.
use Rattle.std.proofs.lemmas.Result.{err_from_is_err_and}
use Rattle.editor.specs.Wording.Promise.{editor_done}
use mathlib.Core.Path.{ap}
use Rattle.editor.specs.Rules.LongLines.{longest_line}
use Rattle.editor.specs.Rules.Bytes.{quarter}
use Rattle.editor.proofs.Laws.Holding.{held-refused, paste-done}
use Rattle.editor.proofs.marks.paste_key.Goals as goal

pub recall_side-requires : goal.recall_side-requires
unfolding longest_line
recall_side-requires c = rw c.holding_sizes.ensures c.requires

pub returns-in_err-t : goal.returns-in_err-t
unfolding longest_line
returns-in_err-t c =
    let gone = err_from_is_err_and c.from_residual.result c.from_residual.ensures.1 in
    rw (gone.1, gone.2)
    (λ recall side sound. paste-done quarter _ _ sound (held-refused _ _ _ _) (rw c.holding_sizes.ensures at c.in_err-t.ensures))

pub returns : goal.returns
unfolding longest_line
returns c =
    λ recall side sound. paste-done quarter _ _ sound (ap editor_done c.lifted_held.ensures) (rw c.holding_sizes.ensures at c.in_ok-t.ensures)
