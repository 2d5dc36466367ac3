-- `open_sound`: the editor opens its stores, and the painted screen is the opened text's window.
use Rattle.window.proofs.Laws.Views.{tabled-facts}
use Rattle.window.proofs.Laws.OpeningCall.{refresh-asked, text-opened}
use Rattle.window.proofs.calls.open_sound.Goals as goal

pub open_stores-lengths-requires : goal.open_stores-lengths-requires
open_stores-lengths-requires c = record { side_value = (tabled-facts _ _ _ c.requires.screen_value).stores; n_in_bounds = c.requires.n_in_bounds }

pub refresh-requires : goal.refresh-requires
refresh-requires c =
    let both = refresh-asked _ _ _ _ c.requires.screen_value c.requires.n_in_bounds c.open_stores-lengths.ensures.opens c.open_stores-lengths.ensures.same.side_len in
    record { texts = both.0; canvas = both.1 }

pub returns-clause-opens : goal.returns-clause-opens
returns-clause-opens c =
    text-opened _ _ _ _ c.requires.screen_value c.requires.n_in_bounds c.open_stores-lengths.ensures.opens c.open_stores-lengths.ensures.same.side_len
    c.refresh.ensures
