-- `with_lines`: where a distance was found, the newlines on the way are counted.
use mathlib.Core.Path.{◌∙◌}
use Rattle.editor.proofs.Laws.Passages.{lines-nowhere, lines-reached}
use Rattle.editor.proofs.passages.with_lines.Goals as goal

pub returns-in_err-steps : goal.returns-in_err-steps
returns-in_err-steps c = c.from_residual.ensures ∙ lines-nowhere _ _ c.in_err-steps.was

pub lines_passed-requires : goal.lines_passed-requires
lines_passed-requires c = c.requires _ c.in_ok-steps.was

pub returns : goal.returns
returns c = lines-reached _ _ c.in_ok-steps.was c.lines_passed.ensures
