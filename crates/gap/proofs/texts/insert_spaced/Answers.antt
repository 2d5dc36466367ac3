-- `insert_spaced` is one byte stored at the front of the gap, and spaces behind it.
use mathlib.Core.Path.{◌∙◌}
use Rattle.gap.proofs.Laws.Stores.{inserts-spaced}
use Rattle.gap.proofs.texts.insert_spaced.Goals as goal

pub returns : goal.returns
returns c = c.fill_at.ensures ∙ inserts-spaced c.requires.gap _ _ c.requires.n_in_bounds
