-- `edit_key` does what the plain editor says, on either side: a session gives the side what the key asks.
use Rattle.std.proofs.lemmas.Result.{err_from_is_err_and}
use Rattle.editor.specs.Wording.Promise.{editor_done}
use mathlib.Core.Path.{ap}
use Rattle.editor.specs.Words.{Main, Quoted}
use Rattle.editor.specs.Rules.LongLines.{longest_line}
use Rattle.editor.specs.Rules.Bytes.{quarter}
use Rattle.editor.proofs.Laws.Session.{measured}
use Rattle.editor.proofs.Laws.Replies.{lifted-refused, on-side, on-mode, on-quotation}
use Rattle.editor.proofs.keys.edit_key.Goals as goal

pub on_side-requires : goal.on_side-requires
unfolding longest_line
on_side-requires c = on-side quarter _ _ c.requires.1 Main

pub edit_quotation-requires : goal.edit_quotation-requires
edit_quotation-requires c = record { side_len = (measured quarter _ c.requires.1.tabled).side; on_side = on-side quarter _ _ c.requires.1 Quoted }

pub returns-in_err-t-in-Main : goal.returns-in_err-t-in-Main
unfolding longest_line
returns-in_err-t-in-Main c =
    let gone = err_from_is_err_and c.from_residual.result c.from_residual.ensures.1 in
    rw (gone.1, gone.2)
    (λ held sound. on-mode quarter _ _ sound Main _ _ _ _ _ c.in-Main.is (lifted-refused c.args.n.mode _ c.args.n.main _) c.in_err-t-in-Main.ensures)

pub returns-in_ok-t-in-Main : goal.returns-in_ok-t-in-Main
unfolding longest_line
returns-in_ok-t-in-Main c =
    λ held sound. on-mode quarter _ _ sound Main _ _ _ _ _ c.in-Main.is (ap editor_done c.lifted.ensures) c.in_ok-t-in-Main.ensures

pub returns-in_err-t-in-Quoted : goal.returns-in_err-t-in-Quoted
returns-in_err-t-in-Quoted c =
    let gone = err_from_is_err_and c.from_residual-in_err-t-in-Quoted.result c.from_residual-in_err-t-in-Quoted.ensures.1 in
    rw (gone.1, gone.2)
    (λ held sound. on-quotation quarter _ _ sound _ _ _ _ c.in-Quoted.is (lifted-refused c.args.n.mode _ c.args.n.quoted _) c.in_err-t-in-Quoted.ensures.edits_side
    c.in_err-t-in-Quoted.ensures.side_unchanged)

pub returns-in_ok-t-in-Quoted : goal.returns-in_ok-t-in-Quoted
returns-in_ok-t-in-Quoted c =
    λ held sound. on-quotation quarter _ _ sound _ _ _ _ c.in-Quoted.is (ap editor_done c.lifted-in-Quoted.ensures)
    c.in_ok-t-in-Quoted.ensures.edits_side c.in_ok-t-in-Quoted.ensures.side_unchanged
