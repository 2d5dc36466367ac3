-- `edit_quotation` does on the quotation's two quarters what the plain edit does: they are lent apart.
use native.Mathlib.Omega.{arith}
use lib.ListN.{length-take}
use mathlib.Core.Path.{refl}
use Rattle.gap.specs.Rules.Sequence.{part}
use Rattle.editor.specs.Rules.Bytes.{quarter}
use Rattle.editor.specs.Wording.Promise.{editing}
use Rattle.editor.proofs.Laws.Quotation.{quotation-edited}
use Rattle.editor.proofs.quotations.edit_quotation.Goals as goal

pub slice_bounds-on_side-end-2 : goal.slice_bounds-on_side-end-2
unfolding quarter
slice_bounds-on_side-end-2 c = simp length-take (omega (arith, c.requires.side_len, c.split_at_mut-text.ensures.back_len))

pub on_side-requires : goal.on_side-requires
unfolding quarter part
on_side-requires c = rw (c.split_at_mut-text.ensures.front, c.split_at_mut-text.ensures.back) c.requires.on_side

pub returns : goal.returns
unfolding quarter part
returns c =
    let cut = c.split_at_mut-text.ensures in
    let both = quotation-edited quarter c.args.side.now c.requires.side_len _ _ _ (editing c.args.e) _ _ _ _ _
    cut.front cut.back c.on_side.auto.text c.on_side.auto.recall c.on_side.ensures refl in record { edits_side = both.0; side_unchanged = both.1 }
