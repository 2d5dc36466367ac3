-- `act` does what the plain editor says where there is room, key by key. What a key is not lent stays as it is.
use mathlib.Core.Path.{refl}
use Rattle.editor.specs.Rules.Keys.{acted}
use Rattle.editor.specs.Rules.Bytes.{quarter}
use Rattle.editor.proofs.Laws.Fitting.{fitting, searchable}
use Rattle.editor.proofs.Laws.Holding.{on-holding, mark-inside}
use Rattle.editor.proofs.keys.act.Goals as goal

pub quote_key-requires : goal.quote_key-requires
quote_key-requires c = (fitting quarter _ _ c.requires).side

pub find_key-requires : goal.find_key-requires
find_key-requires c = searchable quarter _ _ c.requires refl

pub cut_key-requires : goal.cut_key-requires
cut_key-requires c = record { on_side = on-holding quarter _ _ c.requires; mark_value = mark-inside quarter _ _ c.requires }

pub paste_key-requires : goal.paste_key-requires
paste_key-requires c = on-holding quarter _ _ c.requires

pub returns-in-Insert-clause-edits : goal.returns-in-Insert-clause-edits
unfolding acted
returns-in-Insert-clause-edits c = rw c.in-Insert.is (c.edit_key.ensures _ c.requires)

pub returns-in-Function-clause-edits : goal.returns-in-Function-clause-edits
unfolding acted
returns-in-Function-clause-edits c = rw c.in-Function.is (c.edit_key-in-Function.ensures _ c.requires)

pub returns-in-Recall-clause-edits : goal.returns-in-Recall-clause-edits
unfolding acted
returns-in-Recall-clause-edits c = rw c.in-Recall.is (c.edit_key-in-Recall.ensures _ c.requires)

pub returns-in-Quote-clause-edits : goal.returns-in-Quote-clause-edits
unfolding acted
returns-in-Quote-clause-edits c = rw c.in-Quote.is (c.quote_key.ensures _ _ _ c.requires)

pub returns-in-Find-clause-edits : goal.returns-in-Find-clause-edits
unfolding acted
returns-in-Find-clause-edits c = rw c.in-Find.is (c.find_key.ensures _ _ c.requires)

pub returns-in-Replace-clause-edits : goal.returns-in-Replace-clause-edits
unfolding acted
returns-in-Replace-clause-edits c = rw c.in-Replace.is (c.replace_key.ensures _ c.requires)

pub returns-in-Mark-clause-edits : goal.returns-in-Mark-clause-edits
unfolding acted
returns-in-Mark-clause-edits c = rw c.in-Mark.is (c.mark_key.ensures _ c.requires)

pub returns-in-Cut-clause-edits : goal.returns-in-Cut-clause-edits
unfolding acted
returns-in-Cut-clause-edits c = rw c.in-Cut.is (c.cut_key.ensures _ _ c.requires)

pub returns-in-Paste-clause-edits : goal.returns-in-Paste-clause-edits
unfolding acted
returns-in-Paste-clause-edits c = rw c.in-Paste.is (c.paste_key.ensures _ _ c.requires)

pub returns-in-Newline-clause-edits : goal.returns-in-Newline-clause-edits
unfolding acted
returns-in-Newline-clause-edits c = rw c.in-Newline.is (c.edit_key-in-Newline.ensures _ c.requires)

pub returns-in-Tab-clause-edits : goal.returns-in-Tab-clause-edits
unfolding acted
returns-in-Tab-clause-edits c = rw c.in-Tab.is (c.edit_key-in-Tab.ensures _ c.requires)
