-- `open_stores`: the text is laid out, zeros hold the rest, and the lengths are the opened text's.
use Rattle.editor.proofs.Laws.Opening.{stores-opened}
use Rattle.editor.proofs.stores.open_stores.Goals as goal

pub returns-clause-opens : goal.returns-clause-opens
returns-clause-opens c =
    stores-opened _ _ c.requires.side_value c.requires.n_in_bounds c.opening_lengths.ensures c.open_text.ensures
    c.clear.ensures c.clear-2.ensures c.clear-3.ensures
