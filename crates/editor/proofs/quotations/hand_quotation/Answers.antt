-- `hand_quotation` gives the quotation in QUOTED and does nothing in MAIN.
use Rattle.editor.proofs.quotations.hand_quotation.Goals as goal

pub returns-in-Main : goal.returns-in-Main
returns-in-Main c = rw c.in-Main.is

pub returns-in-Quoted : goal.returns-in-Quoted
returns-in-Quoted c = rw c.in-Quoted.is c.give_quotation.ensures
