-- `match_passage`: the distance to a match is within the room, and has its lines.
use mathlib.Core.Path.{ap, ◌∙◌}
use Rattle.editor.specs.Rules.Passages.{with_lines, passage_to}
use Rattle.editor.proofs.Laws.SideEdits.{distance-in-room}
use Rattle.editor.proofs.passages.match_passage.Goals as goal

pub with_lines-requires : goal.with_lines-requires
with_lines-requires c = distance-in-room _ _ _ c.match_distance.ensures

pub returns : goal.returns
unfolding passage_to
returns c = c.with_lines.ensures ∙ ap (with_lines _ _) c.match_distance.ensures
