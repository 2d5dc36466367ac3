-- `tabled_stores` tests H and W first, so that their product is small; the tests together are those of the definition.
use mathlib.Core.Path.{sym, ◌∙◌}
use native.Mathlib.Omega.{arith}
use Rattle.editor.specs.Rules.Bytes.{quarter}
use Rattle.window.proofs.Laws.KeyCall.{not-tabled, tabled-so, product_small}
use Rattle.window.proofs.calls.tabled_stores.Goals as goal

pub returns-then-not-rows_and_columns : goal.returns-then-not-rows_and_columns
returns-then-not-rows_and_columns c = not-tabled _ _ _ (sym c.rows_and_columns.ensures ∙ c.if-not-rows_and_columns.true)

pub overflow_mul-result : goal.overflow_mul-result
overflow_mul-result c =
    record { fits = omega (arith, product_small c.args.h c.args.w (sym c.rows_and_columns.ensures ∙ c.if-not-rows_and_columns.false)) }

pub returns : goal.returns
unfolding quarter
returns c = tabled-so _ _ _ _ c.sized_stores.ensures (sym c.rows_and_columns.ensures ∙ c.if-not-rows_and_columns.false)
