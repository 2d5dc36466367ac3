-- `rows_size` adds the sizes of the named rows, one a turn: before turn i, those of the first i.
use mathlib.Core.Path.{refl}
use native.Mathlib.Omega.{arith}
use Rattle.window.specs.Wording.Writing.{rows_size}
use Rattle.window.proofs.Laws.Sequences.{spot-small, rows-small, size-more}
use Rattle.window.proofs.sequences.rows_size.Goals as goal

pub loop-i-init : goal.loop-i-init
unfolding rows_size
loop-i-init c = (omega arith, refl)

pub overflow_add-size : goal.overflow_add-size
overflow_add-size c =
    record {
      fits = omega (
        arith,
        (spot-small c.args.w c.args.u.first c.args.u.last c.requires.0 c.requires.1 c.row_count-i-end.ensures c.loop-i-test.true
            c.spot_size.ensures),
      );
    }

pub overflow_add-size-in-loop-i : goal.overflow_add-size-in-loop-i
overflow_add-size-in-loop-i c =
    let so_far = rows-small c.args.w c.args.u.first c.args.u.last c.requires.0 c.requires.1
    c.row_count-i-end.ensures c.loop-i.i c.loop-i.invariant.0 c.requires.2
    in record {
      fits = omega (
        arith,
        (spot-small c.args.w c.args.u.first c.args.u.last c.requires.0 c.requires.1 c.row_count-i-end.ensures c.loop-i-test.true
            c.spot_size.ensures),
        so_far,
        c.loop-i.invariant.1,
      );
    }

pub loop-i-preserved : goal.loop-i-preserved
loop-i-preserved c = (omega arith, size-more _ _ _ c.loop-i.invariant.1 c.spot_size.ensures)
