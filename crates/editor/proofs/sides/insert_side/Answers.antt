-- `insert_side` is a byte that goes in without spaces, and quietly, whatever the recall text; refused, it says what was said.
use Rattle.std.proofs.lemmas.Result.{err_from_is_err_and}
use Rattle.editor.proofs.Laws.SideEdits.{byte-quietly}
use Rattle.editor.proofs.sides.insert_side.Goals as goal

pub returns-in_err-t : goal.returns-in_err-t
returns-in_err-t c =
    let gone = err_from_is_err_and c.from_residual.result c.from_residual.ensures.1 in
    rw (gone.1, gone.2) (λ recall on. byte-quietly on _ (c.in_err-t.ensures recall on))

pub returns : goal.returns
returns c = λ recall on. byte-quietly on _ (c.in_ok-t.ensures recall on)
