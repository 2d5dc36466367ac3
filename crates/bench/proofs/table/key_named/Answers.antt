-- `table::key_named` meets its contract: behind `insert-` stands the number, and the key table has all other names.
use mathlib.Core.Path.{refl, sym, ◌∙◌}
use Rattle.gap.specs.Rules.Strings.{bytes}
use Rattle.bench.specs.Rules.Names.{combinations}
use Rattle.bench.proofs.Laws.KeyNames.{fronted, named-in, named-insert}
use Rattle.bench.proofs.table.key_named.Goals as goal

pub returns-in-Some : goal.returns-in-Some
unfolding bytes
returns-in-Some c =
    let read = c.in-Some.ensures.cases in
    named-insert c.args.name.now read.0 read.1 c.number_of.ensures c.insert_numbered.ensures

pub returns-in-None : goal.returns-in-None
unfolding bytes combinations
returns-in-None c =
    c.key_in.ensures ∙ named-in c.args.name.now _ refl (sym (fronted (bytes "insert-") c.args.name.now) ∙ c.in-None.ensures.cases)
