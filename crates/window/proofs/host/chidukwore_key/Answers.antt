-- `host::chidukwore_key` meets its contract: it is the key call, in numbers, where the mode is one.
use Rattle.std.specs.Prelude.{true, false}
use Rattle.std.proofs.Common.{rules}
use mathlib.Core.Path.{sym, ◌∙◌}
use Rattle.window.proofs.Laws.HostNumbers.{keyed-given, refused-numbers, no-mode-given, ended}
use Rattle.window.proofs.host.chidukwore_key.Goals as goal

pub returns-then-tabled_stores : goal.returns-then-tabled_stores
returns-then-tabled_stores c =
    let tabled = sym c.if-tabled_stores.true ∙ c.tabled_stores.ensures in
    no-mode-given c.args.n _ _ _ _ _ true c.if-mode-gt1.true tabled c.refused.ensures

pub returns-then-mode-gt1 : goal.returns-then-mode-gt1
returns-then-mode-gt1 c =
    let untabled = sym c.if-tabled_stores.false ∙ c.tabled_stores.ensures in
    no-mode-given c.args.n _ _ _ _ _ false c.if-mode-gt1.true untabled c.refused-then-mode-gt1.ensures

pub returns-in-Ok : goal.returns-in-Ok
returns-in-Ok c =
    ended (search rules) (search rules) (search rules) (search rules)
    (keyed-given _ _ c.in_numbers.ensures c.args.n _ _ _ _ _
    c.if-mode-gt1.false c.from.ensures c.key_from-k.ensures c.in-Ok.ensures.answers)

pub returns-in-Err : goal.returns-in-Err
returns-in-Err c =
    let back = refused-numbers c.args.n _ c.if-mode-gt1.false c.from.ensures c.refused-in-Err.ensures in
    ended (search rules) (search rules) (search rules) (search rules)
    (keyed-given _ _ back c.args.n _ _ _ _ _
    c.if-mode-gt1.false c.from.ensures c.key_from-k.ensures c.in-Err.ensures.answers)
