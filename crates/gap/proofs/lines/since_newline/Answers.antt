-- `lines::since_newline` meets its contract: there is no newline from the search's end on, and none behind the last one.
use Rattle.gap.proofs.Laws.LineScans.{since-last, since-start}
use Rattle.gap.proofs.lines.since_newline.Goals as goal

pub returns-in-Some : goal.returns-in-Some
returns-in-Some c =
    since-last _ c.back_without-end.ensures c.in-Some.last c.in-Some.ensures.inside c.in-Some.ensures.newline c.in-Some.ensures.none_behind

pub returns-in-None : goal.returns-in-None
returns-in-None c = since-start _ c.back_without-end.ensures c.in-None.ensures.none
