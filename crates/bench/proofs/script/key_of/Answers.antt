-- `script::key_of` meets its contract: the key stands behind `key=`.
use mathlib.Core.Path.{sym, ap, ◌∙◌}
use Rattle.gap.specs.Rules.Strings.{bytes}
use Rattle.gap.proofs.Laws.Tests.{cond-true, cond-false}
use Rattle.bench.specs.Rules.Names.{key_named}
use Rattle.bench.specs.Rules.Script.{key_of}
use Rattle.bench.proofs.Laws.KeyNames.{fronted}
use Rattle.bench.proofs.script.key_of.Goals as goal

pub returns-in_err-strip_prefix : goal.returns-in_err-strip_prefix
unfolding bytes key_of
returns-in_err-strip_prefix c =
    c.from_residual.ensures ∙ sym (cond-false _ _ (sym (fronted (bytes "key=") c.args.line.now) ∙ c.in_err-strip_prefix.ensures.cases))

pub returns : goal.returns
unfolding bytes key_of
returns c =
    let word = c.in_ok-strip_prefix.ensures.cases in
    c.key_named.ensures
    ∙ ap key_named word.1
    ∙ sym (cond-true _ _ (sym (fronted (bytes "key=") c.args.line.now) ∙ word.0))
