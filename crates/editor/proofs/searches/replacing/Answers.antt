-- `replacing`: in MAIN the replacement lies in its quarter, in QUOTED the quotation in its own.
use native.Mathlib.Omega.{arith}
use lib.ListN.{length-take, length-drop}
use Rattle.gap.specs.Rules.Sequence.{part}
use Rattle.editor.specs.Rules.Bytes.{quarter}
use Rattle.editor.proofs.searches.replacing.Goals as goal

pub of_pair-requires : goal.of_pair-requires
unfolding quarter
of_pair-requires c = simp (length-take, length-drop) (omega (arith, c.requires.side_len, c.requires.fits))

pub slice_bounds-of-end : goal.slice_bounds-of-end
unfolding quarter
slice_bounds-of-end c = simp length-take (omega (arith, c.requires.side_len))

pub of-requires : goal.of-requires
unfolding quarter
of-requires c = simp length-take (omega (arith, c.requires.side_len, c.requires.fits))

pub returns-in-Main : goal.returns-in-Main
unfolding quarter part
returns-in-Main c = rw c.in-Main.is c.of_pair.ensures.holds

pub returns-in-Quoted : goal.returns-in-Quoted
unfolding quarter part
returns-in-Quoted c = rw c.in-Quoted.is c.of.ensures.holds
