-- `press_turn`: an accepted key has a screen that can be printed.
use mathlib.Core.Path.{refl}
use Rattle.bench.proofs.Laws.Blocks.{keyed-printable}
use Rattle.bench.proofs.run.press_turn.Goals as goal

pub put_accepted-requires-clause-printable : goal.put_accepted-requires-clause-printable
put_accepted-requires-clause-printable c = keyed-printable _ _ _ _ c.in-Ok.ensures.answers _ c.press.auto.screen refl
