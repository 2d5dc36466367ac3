-- `copy_at` patches the store: the run is copied to the front of what stands from `at` on.
use Rattle.gap.proofs.Laws.Runs.{tail-copied}
use Rattle.gap.proofs.runs.copy_at.Goals as goal

pub returns : goal.returns
returns c = tail-copied _ _ _ _ c.copy_front.ensures
