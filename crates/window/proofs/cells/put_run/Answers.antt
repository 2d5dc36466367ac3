-- `cells::put_run` meets its contract: the library compares byte by byte, as the definition does.
use borrow.Author.Tests.{not-false}
use mathlib.Core.Path.{sym, ◌∙◌}
use Rattle.gap.specs.Rules.Sequence.{same_bytes}
use Rattle.gap.proofs.Laws.Sequence.{same-equal}
use Rattle.window.proofs.cells.put_run.Goals as goal

pub returns-then-changed : goal.returns-then-changed
unfolding same_bytes
returns-then-changed c = (c.copy_from_slice.ensures.after, c.ne-changed.ensures)

pub returns-else-changed : goal.returns-else-changed
unfolding same_bytes
returns-else-changed c =
    (same-equal c.args.cells.now c.args.run.now (not-false _ (sym c.ne-changed.ensures ∙ c.if-changed.false)), c.ne-changed.ensures)
