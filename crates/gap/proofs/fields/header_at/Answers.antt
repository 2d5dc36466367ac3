-- `fields::header_at` meets its contract: the line is lent where its newline is there.
use Rattle.gap.proofs.Laws.LinePlaces.{line-starts}
use Rattle.gap.proofs.Laws.Fields.{header-cut, header_read}
use Rattle.gap.proofs.fields.header_at.Goals as goal

pub returns-then-s-end : goal.returns-then-s-end
returns-then-s-end c = header-cut _ _ c.end_at-end.ensures _ _ c.if-s-end.true

pub slice_bounds-field_of-count : goal.slice_bounds-field_of-count
slice_bounds-field_of-count c = line-starts _ _ c.end_at-end.ensures

pub slice_bounds-field_of-start : goal.slice_bounds-field_of-start
slice_bounds-field_of-start c = line-starts _ _ c.end_at-end.ensures

pub returns : goal.returns
returns c = header_read _ _ c.end_at-end.ensures _ _ c.if-s-end.false c.field_of.ensures
