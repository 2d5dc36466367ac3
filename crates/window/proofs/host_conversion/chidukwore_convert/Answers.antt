-- `chidukwore_convert` is the conversion, in numbers, where the mode is one.
use Rattle.std.specs.Prelude.{true, false}
use mathlib.Core.Path.{sym, ◌∙◌}
use Rattle.window.proofs.Laws.HostNumbers.{refused-numbers}
use Rattle.window.proofs.Laws.Conversion.{converted-given, no-mode-converted}
use Rattle.window.proofs.host_conversion.chidukwore_convert.Goals as goal

pub returns-then-convertible_stores : goal.returns-then-convertible_stores
returns-then-convertible_stores c =
    no-mode-converted c.args.n _ _ true c.if-mode-gt1.true (sym c.if-convertible_stores.true ∙ c.convertible_stores.ensures)
    c.refused.ensures

pub returns-then-mode-gt1 : goal.returns-then-mode-gt1
returns-then-mode-gt1 c =
    no-mode-converted c.args.n _ _ false c.if-mode-gt1.true (sym c.if-convertible_stores.false ∙ c.convertible_stores.ensures)
    c.refused-then-mode-gt1.ensures

pub returns-in-Ok : goal.returns-in-Ok
returns-in-Ok c =
    let back = refused-numbers c.args.n _ c.if-mode-gt1.false c.from.ensures c.bare.ensures in
    converted-given back c.args.n _ _ c.if-mode-gt1.false c.from.ensures c.in-Ok.ensures

pub returns-in-Err : goal.returns-in-Err
returns-in-Err c =
    let back = refused-numbers c.args.n _ c.if-mode-gt1.false c.from.ensures c.refused-in-Err.ensures in
    converted-given back c.args.n _ _ c.if-mode-gt1.false c.from.ensures c.in-Err.ensures
