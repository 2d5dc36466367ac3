-- `Painter::paint_text` meets its contract: the pieces of each mode make up the virtual text that the stores hold.
use mathlib.Core.Path.{ap, ◌∙◌}
use native.Mathlib.Omega.{arith}
use lib.ListN.{take, length-take}
use Rattle.gap.specs.Rules.Doc.{content}
use Rattle.editor.specs.Rules.Bytes.{quarter}
use Rattle.window.specs.Wording.Painter.{paint, sheet_of, with_sheet}
use Rattle.window.proofs.Laws.Pieces.{main-pieces, quoted-pieces}
use Rattle.window.proofs.Laws.Refresh.{main-held, quoted-held, quarter-size, pieces-asked}
use Rattle.window.proofs.painter.Painter.paint_text.Goals as goal

-- What the stores hold is asked for on a fresh screen, which is the painter's.
pub paint_pieces-requires : goal.paint_pieces-requires
paint_pieces-requires c =
    rw c.requires.fresh
    (pieces-asked c.requires.texts c.requires.canvas
    (main-pieces c.args.n.main.l c.args.n.main.r c.args.text.now ∙ ap content (main-held c.args.n _ _ c.in-Main.is)))

pub returns-in-Main : goal.returns-in-Main
returns-in-Main c =
    c.paint_pieces.ensures
    ∙ ap (λ all. with_sheet c.args.self.now (paint c.args.self.now.frame all (sheet_of c.args.self.now)))
    (main-pieces c.args.n.main.l c.args.n.main.r c.args.text.now ∙ ap content (main-held c.args.n _ _ c.in-Main.is))

pub slice_bounds-quarter-end : goal.slice_bounds-quarter-end
unfolding quarter
slice_bounds-quarter-end c = quarter-size c.requires.texts

pub slice_bounds-before-end : goal.slice_bounds-before-end
unfolding quarter
slice_bounds-before-end c = simp length-take (omega (arith, quarter-size c.requires.texts, c.requires.texts.quotation))

pub overflow_sub-behind : goal.overflow_sub-behind
unfolding quarter
overflow_sub-behind c = omega (arith, quarter-size c.requires.texts, c.requires.texts.quotation)

pub paint_pieces-requires-in-Quoted : goal.paint_pieces-requires-in-Quoted
unfolding quarter
paint_pieces-requires-in-Quoted c =
    rw c.requires.fresh
    (pieces-asked c.requires.texts c.requires.canvas
    (quoted-pieces c.args.n.main.l c.args.n.main.r c.args.text.now c.args.n.quoted.l c.args.n.quoted.r (take quarter c.args.side.now)
    ∙ ap content (quoted-held c.args.n _ _ c.in-Quoted.is)))

pub returns-in-Quoted : goal.returns-in-Quoted
unfolding quarter
returns-in-Quoted c =
    c.paint_pieces-in-Quoted.ensures
    ∙ ap (λ all. with_sheet c.args.self.now (paint c.args.self.now.frame all (sheet_of c.args.self.now)))
    (quoted-pieces c.args.n.main.l c.args.n.main.r c.args.text.now c.args.n.quoted.l c.args.n.quoted.r (take quarter c.args.side.now)
    ∙ ap content (quoted-held c.args.n _ _ c.in-Quoted.is))
