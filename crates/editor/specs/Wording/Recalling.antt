-- The words in which theorems speak of RECALL after another key, on the side that the mode says. (01, recall text. 02, M-103.)
use Rattle.std.specs.Prelude.{◌++◌}
use Rattle.gap.specs.Rules.Doc.{Doc}
use Rattle.editor.specs.Rules.Plain.{Plain}
use Rattle.editor.specs.Rules.Marks.{putting, mark_changed}
use Rattle.editor.specs.Rules.Keys.{side_of, with_side, with_mark, of_document}

abbrev pub recall_of : Plain → Doc
recall_of p = (side_of p.mode p).recall

-- The state with its text as it is and another recall text.
abbrev pub with_recall : Doc → Plain → Plain
with_recall recall p = with_side p.mode (record { text = (side_of p.mode p).text; recall = recall }) p

-- The state with its recall text (x, y) put in: the text is (l then x, y then r).
abbrev pub recall_in : Plain → Plain
recall_in p =
    let side = side_of p.mode p in
    with_side p.mode
    (record {
      text = record { l = side.text.l ++ side.recall.l; r = side.recall.r ++ side.text.r };
      recall = side.recall;
    })
    p

-- In the document the mark goes through that. (02, M-101.)
abbrev pub recall_put_in : Plain → Plain
recall_put_in p =
    with_mark (mark_changed (of_document p.mode (putting p.main.recall)) p.main.text p.mark) (recall_in p)
