-- `give_quotation` gives the quotation to the other quarter as a pair, and clears its own two.
use native.Mathlib.Omega.{arith}
use lib.ListN.{length-take}
use Rattle.editor.specs.Rules.Bytes.{quarter}
use Rattle.editor.proofs.Laws.HandedOver.{quotation-given}
use Rattle.editor.proofs.quotations.give_quotation.Goals as goal

pub slice_bounds-of-end-2 : goal.slice_bounds-of-end-2
slice_bounds-of-end-2 c = simp length-take (omega (arith, c.split_at_mut-own.ensures.front_len))

pub of-requires : goal.of-requires
unfolding quarter
of-requires c = simp length-take (omega (arith, c.split_at_mut-own.ensures.front_len, c.requires.side_len))

pub returns : goal.returns
unfolding quarter
returns c =
    let cut = c.split_at_mut-own.ensures in
    quotation-given quarter _ _ _ _ _ _ _ _ c.requires.side_len.0 c.requires.quarter_bound.0 c.requires.quarter_bound.1 cut.front cut.back
    (rw c.of.ensures.holds at c.hand_over.ensures) c.hand_over.auto.pair c.clear.ensures
