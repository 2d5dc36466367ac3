-- `print::put_accepted` writes the entries of an accepted call and the rows of its screen, one behind the other.
use native.Mathlib.Omega.{arith}
use Rattle.gap.specs.Rules.Strings.{bytes}
use Rattle.window.specs.Wording.Calls.{accepted_reply}
use Rattle.bench.proofs.Laws.Printed.{rows-room, accepted-wrote}
use Rattle.bench.proofs.print.put_accepted.Goals as goal

pub put_rows-requires-clause-screen_in_bounds : goal.put_rows-requires-clause-screen_in_bounds
put_rows-requires-clause-screen_in_bounds c =
    rows-room _ _ c.requires.printable
    (omega (arith, c.requires.in_bounds, c.put_entries-rows_at.ensures.upper_bound, c.put_entries-rows_at.auto.out))

pub returns : goal.returns
unfolding bytes
returns c =
    accepted-wrote _ _ (accepted_reply c.args.a).answer _ c.from.ensures c.rows-rows.ensures c.put_entries-rows_at.ensures.wrote c.put_rows.ensures
