-- `runs_fit`: each run is tested behind what the line has come to, and then the line that goes on behind them.
use native.Mathlib.Omega.{arith}
use Rattle.gap.proofs.Laws.Lines.{since-fits}
use Rattle.gap.proofs.Laws.LineTests.{runs-first, runs-second, runs_last}
use Rattle.gap.proofs.line_limits.runs_fit.Goals as goal

pub returns-then-not-lines_fit : goal.returns-then-not-lines_fit
returns-then-not-lines_fit c =
    runs-first _ _ _ c.args.y.now _ c.requires.front_value c.since_newline-at_x.ensures c.lines_fit.ensures c.if-not-lines_fit.true

pub since_newline-at_y-requires : goal.since_newline-at_y-requires
since_newline-at_y-requires c = omega (arith, c.requires.y_len_bound, c.since_newline-at_x.ensures, since-fits 0 c.args.front.now)

pub returns-then-not-lines_fit-2 : goal.returns-then-not-lines_fit-2
returns-then-not-lines_fit-2 c =
    runs-second _ _ _ _ _ c.requires.front_value c.since_newline-at_x.ensures c.lines_fit.ensures c.if-not-lines_fit.false
    c.since_newline-at_y.ensures c.lines_fit-2.ensures c.if-not-lines_fit-2.true

pub since_newline-at_behind-requires : goal.since_newline-at_behind-requires
since_newline-at_behind-requires c =
    omega (
      arith,
      c.requires.y_len_bound,
      c.since_newline-at_x.ensures,
      since-fits 0 c.args.front.now,
      c.since_newline-at_y.ensures,
      since-fits c.since_newline-at_x.result c.args.x.now,
    )

pub returns : goal.returns
returns c =
    runs_last _ _ _ _ _ c.requires.front_value c.since_newline-at_x.ensures c.lines_fit.ensures c.if-not-lines_fit.false
    c.since_newline-at_y.ensures c.lines_fit-2.ensures c.if-not-lines_fit-2.false c.since_newline-at_behind.ensures c.line_fits.ensures
