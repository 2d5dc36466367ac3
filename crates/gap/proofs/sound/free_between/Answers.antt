-- `free_between` is the tests of the three parts of the store.
use Rattle.gap.proofs.Laws.StoreTests.{parts}
use Rattle.gap.proofs.sound.free_between.Goals as goal

pub returns : goal.returns
returns c =
    parts c.args.a c.args.b c.args.s.now
    c.all_allowed-front.ensures c.all_allowed-behind.ensures c.all_free-between.ensures
