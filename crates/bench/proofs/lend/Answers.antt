-- `lend` lends the fronts of its arrays, and each is as long as asked.
use mathlib.Core.Path.{refl, ◌∙◌}
use lib.Seq.{length-take-le}
use Rattle.editor.specs.Rules.Bytes.{quarter}
use Rattle.bench.proofs.lend.Goals as goal

pub play-requires-clause-as_asked : goal.play-requires-clause-as_asked
unfolding quarter
play-requires-clause-as_asked g c =
    let store = length-take-le _ _ c.requires.store_bound in
    record {
      text = store;
      recall = store;
      held = store;
      side = refl;
      screen = length-take-le _ _ c.screen_size-area.ensures.upper_bound ∙ c.screen_size-area.ensures.value;
    }
