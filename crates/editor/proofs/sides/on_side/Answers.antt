-- `on_side`, for each edit by the function that does it.
use Rattle.editor.proofs.sides.on_side.Goals as goal

pub returns-in-Insert : goal.returns-in-Insert
returns-in-Insert c = rw c.in-Insert.is (c.insert_side.ensures _ c.requires)

pub returns-in-Function : goal.returns-in-Function
returns-in-Function c = rw c.in-Function.is c.function_side.ensures

pub returns-in-Recall : goal.returns-in-Recall
returns-in-Recall c = rw c.in-Recall.is c.recall_side.ensures

pub returns-in-Newline : goal.returns-in-Newline
returns-in-Newline c = rw c.in-Newline.is (c.newline_side.ensures _ c.requires)

pub returns-in-Tab : goal.returns-in-Tab
returns-in-Tab c = rw c.in-Tab.is (c.tab_side.ensures _ c.requires)
