-- `line_fits` compares the first line with the room that the bytes before it leave.
use Rattle.gap.proofs.Laws.LineLimits.{line-room}
use Rattle.gap.proofs.line_limits.line_fits.Goals as goal

pub returns : goal.returns
returns c = line-room _ c.if-limit-at.false c.end_at.ensures
