-- `followed` puts the mark where the key's change leaves it.
use Rattle.editor.proofs.marks.followed.Goals as goal

pub mark_through-requires : goal.mark_through-requires
mark_through-requires c = rw c.exchange_of-e.ensures c.requires.moderate

pub returns : goal.returns
returns c = rw (c.marked_at.ensures, c.mark_through.ensures, c.exchange_of-e.ensures)
