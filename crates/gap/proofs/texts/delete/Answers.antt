-- `delete` takes the bytes out, and they are what the pair store then holds.
use mathlib.Core.Path.{◌≡◌}
use lib.ListN.{length}
use Rattle.gap.proofs.Laws.Stores.{from, cuts}
use Rattle.gap.proofs.texts.delete.Goals.{in-Left, in-Right}
use Rattle.gap.proofs.texts.delete.Goals as goal

pub returns : goal.returns
returns c =
    let place : c.match-way.at ≡ from c.args.way (length c.args.s.now) c.args.l c.args.r c.args.d =
    elim c.match-way.branch [ in-Left w ↦ rw w.in-Left.is w.at-is | in-Right w ↦ rw w.in-Right.is w.at-is ] in
    let both = cuts c.args.way (c.requires.gap, c.requires.d_bound) (rw place at c.take_out.ensures.s_after, rw place at c.take_out.ensures.pair_after) in
    record { s_after = both.0; pair_after = both.1 }
