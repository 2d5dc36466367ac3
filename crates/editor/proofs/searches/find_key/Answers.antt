-- `find_key` is a search, in QUOTED once the quotation was handed over as the pattern.
use mathlib.Core.Path.{◌∙◌}
use Rattle.editor.specs.Rules.Bytes.{quarter}
use Rattle.editor.proofs.Laws.Fitting.{taken-searchable}
use Rattle.editor.proofs.Laws.HandedOver.{pattern-holds, find-done}
use Rattle.editor.proofs.searches.find_key.Goals as goal

pub search-requires : goal.search-requires
search-requires c = taken-searchable _ _ _ _ _ c.requires c.pattern_taken.ensures c.hand_quotation.auto.side

pub returns : goal.returns
unfolding quarter
returns c =
    λ recall held sound.
    let holds = pattern-holds quarter _ _ sound c.pattern_taken.ensures c.hand_quotation.ensures in
    c.search.ensures _ _ holds.sound ∙ find-done quarter _ _ sound holds _
