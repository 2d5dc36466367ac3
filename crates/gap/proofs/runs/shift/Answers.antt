-- `shift` carries the run: the run is copied, and what its new place leaves bare of the old one is cleared, at the front or at the end. A run
-- that has no way to go is carried as it stands.
use mathlib.Core.Path.{◌∙◌}
use Rattle.gap.proofs.Laws.Shifts.{slides, stays, front-cleared, end-cleared}
use Rattle.gap.proofs.runs.shift.Goals as goal

pub returns-then-to-from : goal.returns-then-to-from
returns-then-to-from c = stays _ _ _ _ c.requires.0 c.if-to-from.true

pub returns-then-from-to : goal.returns-then-from-to
returns-then-from-to c =
    front-cleared _ _ _ _ _ c.requires c.if-from-to.true c.min-bare.ensures
    (c.copy_within.ensures.after ∙ slides _ _ _ _ c.requires) c.vacate.ensures

pub returns : goal.returns
returns c =
    end-cleared _ _ _ _ _ c.requires c.if-from-to.false c.min-bare-2.ensures
    (c.copy_within.ensures.after ∙ slides _ _ _ _ c.requires) c.vacate-2.ensures
