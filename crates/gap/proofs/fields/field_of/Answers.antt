-- `fields::field_of` meets its contract: what stands behind the word is read, if the line begins with the word.
use Rattle.std.proofs.Common.{None, ◌∙◌}
use Rattle.gap.specs.Rules.Decimal.{number_of}
use Rattle.gap.specs.Rules.Fields.{field_of}
use Rattle.gap.proofs.Laws.Fields.{prefix-none, prefix_read}
use Rattle.gap.proofs.fields.field_of.Goals as goal

pub returns-in_err-strip_prefix : goal.returns-in_err-strip_prefix
unfolding field_of
returns-in_err-strip_prefix c =
    c.from_residual.ensures ∙ prefix-none c.args.word.now c.args.line.now (number_of _) None (c.in_err-strip_prefix.ensures.cases)

pub returns : goal.returns
unfolding field_of
returns c =
    prefix_read c.args.word.now c.args.line.now (number_of _) None c.in_ok-strip_prefix.ensures.cases.0 c.in_ok-strip_prefix.ensures.cases.1
    c.number_of.ensures
