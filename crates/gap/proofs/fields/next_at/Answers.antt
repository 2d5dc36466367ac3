-- `fields::next_at` meets its contract: the next line starts behind the newline, if there is one.
use Rattle.gap.proofs.Laws.LinePlaces.{next-behind, next-none}
use Rattle.gap.proofs.fields.next_at.Goals as goal

pub returns-then-end-s : goal.returns-then-end-s
returns-then-end-s c = next-behind _ _ c.end_at-end.ensures c.if-end-s.true

pub returns : goal.returns
returns c = next-none _ _ c.end_at-end.ensures c.if-end-s.false
