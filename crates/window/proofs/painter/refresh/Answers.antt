-- `painter::refresh` meets its contract: the painted pieces are the virtual text, and its end is finished. That the screen is left as the
-- painter leaves it follows from the references' names, which `search` finds.
use mathlib.Core.Path.{ap, ◌∙◌}
use borrow.Author.Rules.{rules}
use Rattle.window.specs.Wording.Painter.{sheet_of}
use Rattle.window.proofs.Laws.Refresh.{all-painted, finish-asked, refreshed}
use Rattle.window.proofs.painter.refresh.Goals as goal

pub finish-requires : goal.finish-requires
finish-requires c =
    let fresh = c.at_first-painter.ensures in
    let frame = ap (λ t. t.frame) c.paint_text.ensures ∙ fresh.1.0 in
    let painted = rw (fresh.1.0, fresh.1.1) at (ap sheet_of c.paint_text.ensures) in
    let both = finish-asked (all-painted c.requires.texts c.requires.canvas painted) in
    record { easel = rw frame both.0; pen_value = rw frame both.1 }

pub returns : goal.returns
returns c =
    let fresh = c.at_first-painter.ensures in
    let frame = ap (λ t. t.frame) c.paint_text.ensures ∙ fresh.1.0 in
    let painted = rw (fresh.1.0, fresh.1.1) at (ap sheet_of c.paint_text.ensures) in
    let finished = rw frame at (ap sheet_of c.finish.ensures) in
    let done = refreshed (all-painted c.requires.texts c.requires.canvas painted) finished in
    search rules
