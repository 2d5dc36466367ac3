-- `print::put_entries` writes entries one behind the other: before entry i, those before it are written.
use Rattle.bench.proofs.Laws.Printed.{entered-none, entered-more}
use Rattle.bench.proofs.print.put_entries.Goals as goal

pub loop-word-init : goal.loop-word-init
loop-word-init c = entered-none c.args.entries.now c.args.out.now c.args.at c.requires

pub loop-word-preserved : goal.loop-word-preserved
loop-word-preserved c =
    entered-more _ c.loop-word.invariant c.loop-word-test.true c.put_entry-next.ensures.wrote c.put_entry-next.ensures.upper_bound
