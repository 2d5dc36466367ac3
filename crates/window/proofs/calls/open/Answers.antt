-- `calls::open` meets its contract: it is refused by its tests, or the text is opened.
use Rattle.std.proofs.lemmas.Result.{err_from_is_err_and}
use mathlib.Core.Path.{◌∙◌}
use Rattle.window.proofs.calls.open.Goals as goal

pub open_sound-requires : goal.open_sound-requires
open_sound-requires c = record { screen_value = c.in_ok-openable.ensures.0; n_in_bounds = c.in_ok-openable.ensures.1 }

pub returns-in_err-openable-clause-answers : goal.returns-in_err-openable-clause-answers
returns-in_err-openable-clause-answers c =
    let gone = err_from_is_err_and c.from_residual.result c.from_residual.ensures.1 in
    rw (gone.1, gone.2) c.in_err-openable.ensures

pub returns-clause-answers : goal.returns-clause-answers
returns-clause-answers c = c.open_sound.ensures.opens ∙ c.in_ok-openable.ensures.2
