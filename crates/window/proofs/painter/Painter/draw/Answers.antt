-- `Painter::draw` meets its contract: what is left of the text decides, run by run and line by line.
use mathlib.Core.Path.{ap}
use native.Mathlib.Omega.{arith}
use Rattle.gap.proofs.Laws.LinePlaces.{line-starts, line-inside, ends-unbroken, ends-stop}
use Rattle.window.specs.Wording.Painter.{sheet_of}
use Rattle.window.proofs.Laws.Drawing.{drawn-in-row, drawn-run, drawn-line, drawn-over, drawn-all}
use Rattle.window.proofs.Laws.Drawing.{run-asks, line-asks}
use Rattle.window.proofs.Laws.Painters.{same-frame, after-step, after-all}
use Rattle.window.proofs.painter.Painter.draw.Goals as goal

pub end_at-e-requires : goal.end_at-e-requires
end_at-e-requires c = c.loop-y.invariant.1.within

pub slice_bounds-draw_run-count : goal.slice_bounds-draw_run-count
slice_bounds-draw_run-count c = line-starts _ _ c.end_at-e.ensures

pub slice_bounds-draw_run-start : goal.slice_bounds-draw_run-start
slice_bounds-draw_run-start c = omega (arith, line-starts _ _ c.end_at-e.ensures, line-inside _ _ c.end_at-e.ensures c.loop-y.invariant.1.within)

pub slice_bounds-draw_run-end : goal.slice_bounds-draw_run-end
slice_bounds-draw_run-end c = line-inside _ _ c.end_at-e.ensures c.loop-y.invariant.1.within

pub draw_run-requires : goal.draw_run-requires
draw_run-requires c =
    let f = same-frame c.loop-y.invariant.0 in
    let both = run-asks (drawn-in-row c.loop-y.invariant.1 c.loop-y-test.true) (ends-unbroken _ _ c.loop-y.invariant.1.within c.end_at-e.ensures) in
    record { run_value = both.0; easel = rw f both.1.0; pen_value = rw f both.1.1 }

pub returns-then-t-e : goal.returns-then-t-e
returns-then-t-e c =
    let f = same-frame c.loop-y.invariant.0 in
    let row = drawn-in-row c.loop-y.invariant.1 c.loop-y-test.true in
    let run = drawn-run row (ends-unbroken _ _ c.loop-y.invariant.1.within c.end_at-e.ensures) (rw f at (ap sheet_of c.draw_run.ensures)) in
    after-all (after-step c.loop-y.invariant.0 c.draw_run.ensures) (drawn-all run.drawn c.if-t-e.true)

pub end_row-requires : goal.end_row-requires
end_row-requires c =
    let f = same-frame c.loop-y.invariant.0 in
    let row = drawn-in-row c.loop-y.invariant.1 c.loop-y-test.true in
    let run = drawn-run row (ends-unbroken _ _ c.loop-y.invariant.1.within c.end_at-e.ensures) (rw f at (ap sheet_of c.draw_run.ensures)) in
    let both = line-asks run c.if-t-e.false in
    let g = same-frame (after-step c.loop-y.invariant.0 c.draw_run.ensures) in
    record { easel = rw g both.0; pen_value = rw g both.1 }

pub loop-y-preserved : goal.loop-y-preserved
loop-y-preserved c =
    let f = same-frame c.loop-y.invariant.0 in
    let row = drawn-in-row c.loop-y.invariant.1 c.loop-y-test.true in
    let run = drawn-run row (ends-unbroken _ _ c.loop-y.invariant.1.within c.end_at-e.ensures) (rw f at (ap sheet_of c.draw_run.ensures)) in
    let after = after-step c.loop-y.invariant.0 c.draw_run.ensures in
    let g = same-frame after in (
      after-step after c.end_row.ensures,
      drawn-line run c.if-t-e.false (ends-stop _ _ c.end_at-e.ensures c.if-t-e.false) (rw g at (ap sheet_of c.end_row.ensures)),
    )

pub returns : goal.returns
returns c = after-all c.loop-y.invariant.0 (drawn-over c.loop-y.invariant.1 c.loop-y-test.false)
