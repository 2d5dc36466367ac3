-- `fill_at` patches the store with the byte: the part that is lent comes back filled.
use Rattle.gap.proofs.Laws.Runs.{part_filled}
use Rattle.gap.proofs.runs.fill_at.Goals as goal

pub returns : goal.returns
returns c = part_filled _ _ _ c.requires _ _ (c.fill.ensures.after (λ y h. h))
