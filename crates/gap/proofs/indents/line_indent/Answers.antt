-- `line_indent` counts from where the last line begins.
use native.Mathlib.Omega.{arith}
use Rattle.gap.proofs.Laws.Lines.{since-fits}
use Rattle.gap.proofs.Laws.Indents.{line-lent}
use Rattle.gap.proofs.indents.line_indent.Goals as goal

pub overflow_sub-start : goal.overflow_sub-start
overflow_sub-start c = omega (arith, c.since_newline.ensures, since-fits 0 c.args.l.now)

pub returns : goal.returns
returns c = line-lent c.args.l.now (omega (arith, c.since_newline.ensures)) c.leading_spaces.ensures
