-- `script::header_line` meets its contract: the next line starts within the input.
use Rattle.gap.proofs.Laws.LinePlaces.{next-inside}
use Rattle.bench.proofs.script.header_line.Goals as goal

pub returns-in-Some-clause-in_bounds : goal.returns-in-Some-clause-in_bounds
returns-in-Some-clause-in_bounds c = next-inside _ _ c.next_at.ensures c.requires
