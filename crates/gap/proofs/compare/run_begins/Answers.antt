-- `compare::run_begins` meets its contract: what stands from the place on is tested.
use mathlib.Core.Path.{ap, ◌∙◌}
use Rattle.gap.specs.Rules.Sequence.{begins}
use Rattle.gap.proofs.Laws.Runs.{tail-lent}
use Rattle.gap.proofs.compare.run_begins.Goals as goal

pub returns : goal.returns
returns c = c.begins_with.ensures ∙ ap (begins c.args.pattern.now) (tail-lent _ c.args.t.now)
