-- `script::reading_at` meets its contract: a line is there, it is lent, and its key decides.
use Rattle.gap.proofs.Laws.LinePlaces.{line-starts, line-inside}
use Rattle.bench.proofs.Laws.Scripts.{reading-unknown, reading-pressed}
use Rattle.bench.proofs.script.reading_at.Goals as goal

pub slice_bounds-key_of-count : goal.slice_bounds-key_of-count
slice_bounds-key_of-count c = line-starts _ _ c.end_at-end.ensures

pub slice_bounds-key_of-start : goal.slice_bounds-key_of-start
slice_bounds-key_of-start c = line-starts _ _ c.end_at-end.ensures

pub slice_bounds-key_of-end : goal.slice_bounds-key_of-end
slice_bounds-key_of-end c = line-inside _ _ c.end_at-end.ensures c.requires

pub returns-in-None : goal.returns-in-None
returns-in-None c = reading-unknown _ _ c.end_at-end.ensures c.if-s-at.false c.key_of.ensures c.in-None.is

pub returns-in-Some : goal.returns-in-Some
returns-in-Some c =
    reading-pressed _ _ c.end_at-end.ensures c.if-s-at.false c.key_of.ensures c.in-Some.is c.next_at.ensures
