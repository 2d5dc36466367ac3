-- `Painter::finish` meets its contract: the lines before y have ended, and those that are left decide.
use mathlib.Core.Path.{ap}
use Rattle.window.specs.Wording.Painter.{sheet_of}
use Rattle.window.proofs.Laws.Drawing.{finished-none, end-asks, finished-line, finished-all}
use Rattle.window.proofs.Laws.Painters.{after-none, same-frame, after-step, after-all}
use Rattle.window.proofs.painter.Painter.finish.Goals as goal

pub end_row-requires : goal.end_row-requires
end_row-requires c =
    let f = same-frame c.loop-y.invariant.0 in
    let both = end-asks c.loop-y.invariant.1 c.loop-y-test.true in
    record { easel = rw f both.0; pen_value = rw f both.1 }

pub loop-y-init : goal.loop-y-init
loop-y-init c = (after-none c.args.self.now, finished-none c.requires.easel c.requires.pen_value)

pub loop-y-preserved : goal.loop-y-preserved
loop-y-preserved c = (
  after-step c.loop-y.invariant.0 c.end_row.ensures,
  finished-line c.loop-y.invariant.1 c.loop-y-test.true (rw (same-frame c.loop-y.invariant.0) at (ap sheet_of c.end_row.ensures)),
)

pub returns : goal.returns
returns c = after-all c.loop-y.invariant.0 (finished-all c.loop-y.invariant.1 c.loop-y-test.false)
