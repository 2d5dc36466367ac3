-- `opening` lays the text out, opens it, and prints the block: an accepted call has a screen that can be printed.
use mathlib.Core.Path.{refl}
use Rattle.bench.proofs.Laws.Blocks.{opened-printable}
use Rattle.bench.proofs.run.opening.Goals as goal

pub put_accepted-requires-clause-printable : goal.put_accepted-requires-clause-printable
put_accepted-requires-clause-printable c = opened-printable _ _ _ _ _ c.in-Ok.ensures.answers _ c.open.auto.screen refl
