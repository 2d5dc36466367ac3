-- `quote_key`: with both of its quarters free there is an empty quotation.
use mathlib.Core.Path.{refl, ap, ◌∙◌}
use Rattle.editor.specs.Rules.Bytes.{quarter}
use Rattle.editor.specs.Wording.Promise.{cleared}
use Rattle.editor.proofs.Laws.Replies.{quote-done}
use Rattle.editor.proofs.quotations.quote_key.Goals as goal

pub returns : goal.returns
unfolding quarter
returns c =
    let lengths = c.cleared.ensures ∙ ap (λ mode. cleared mode c.args.n) c.other_mode.ensures in
    λ text recall held sound. quote-done quarter _ _ sound _ refl refl lengths c.vacate.ensures
