-- `start` lends stores only for a header that was read.
use mathlib.Core.Path.{sym, ◌∙◌}
use Rattle.bench.proofs.Laws.Beginnings.{begun}
use Rattle.bench.proofs.start.Goals as goal

pub lend-requires : goal.lend-requires
lend-requires g c =
    let both = begun _ _ (sym c.in-Ok.is ∙ c.begin.ensures) in
    record { length_in_bounds = both.0; store_bound = both.1 }
