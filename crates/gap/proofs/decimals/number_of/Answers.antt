-- `number_of` reads a number where the test of the bytes says that they write one.
use Rattle.std.proofs.Common.{Some}
use mathlib.Core.Path.{sym, ap, ◌∙◌}
use native.Mathlib.Omega.{arith}
use Rattle.gap.proofs.Laws.Decimals.{number_is, number_read, number-unread}
use Rattle.gap.proofs.decimals.number_of.Goals as goal

pub value_of-requires : goal.value_of-requires
value_of-requires c =
    let is = number_is _ _ (sym c.is_number.ensures ∙ c.if-is_number.true) in
    (omega (arith, is.few, c.requires), is.digits)

pub returns-then-is_number : goal.returns-then-is_number
returns-then-is_number c = ap Some c.value_of.ensures ∙ number_read _ _ (sym c.is_number.ensures ∙ c.if-is_number.true)

pub returns : goal.returns
returns c = number-unread _ _ (sym c.is_number.ensures ∙ c.if-is_number.false)
