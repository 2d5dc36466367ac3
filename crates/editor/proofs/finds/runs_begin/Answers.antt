-- `editor::finds::runs_begin` meets its contract: the first run decides alone if it is long enough, else with the second.
use mathlib.Core.Path.{sym, ◌∙◌}
use native.Mathlib.Omega.{arith}
use lib.Seq.{length-take-le}
use Rattle.gap.proofs.Laws.Compared.{begins-front, runs_same, runs-differ}
use Rattle.editor.proofs.finds.runs_begin.Goals as goal

pub returns-then-pattern-cut : goal.returns-then-pattern-cut
returns-then-pattern-cut c = c.run_begins.ensures ∙ begins-front _ _ _ c.if-pattern-cut.true

pub slice_bounds-same_bytes-end : goal.slice_bounds-same_bytes-end
slice_bounds-same_bytes-end c = sym (length-take-le _ _ (omega arith))

pub returns-then-same_bytes : goal.returns-then-same_bytes
returns-then-same_bytes c =
    runs_same _ c.args.x.now c.args.y.now c.if-pattern-cut.false c.same_bytes.ensures c.if-same_bytes.true
    c.run_begins-then-same_bytes.ensures

pub returns : goal.returns
returns c = runs-differ _ c.args.x.now c.args.y.now c.if-pattern-cut.false c.same_bytes.ensures c.if-same_bytes.false
