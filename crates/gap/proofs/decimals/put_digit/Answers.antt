-- `put_digit` writes one byte.
use Rattle.gap.proofs.Laws.Writers.{wrote-byte}
use Rattle.gap.proofs.decimals.put_digit.Goals as goal

pub returns : goal.returns
returns c = wrote-byte _ _ _ c.requires.1
