-- `convert` is the conversion: SIZE, SESSION by the old rule, or the quarters lengthened.
use mathlib.Core.Path.{sym, ◌∙◌, refl}
use native.Mathlib.Omega.{arith}
use Rattle.editor.specs.Rules.Bytes.{quarter}
use Rattle.editor.specs.Rules.Conversion.{old_quarter}
use Rattle.window.proofs.Laws.KeyCall.{tested-so, tested-not}
use Rattle.window.proofs.Laws.Conversion.{size-refused, session-refused, old-sized, lengthen-asked, lengthened-done}
use Rattle.window.proofs.conversion.convert.Goals as goal

pub returns-then-not-convertible_stores : goal.returns-then-not-convertible_stores
returns-then-not-convertible_stores c = size-refused _ _ _ (sym c.convertible_stores.ensures ∙ c.if-not-convertible_stores.true) refl

pub session_test-requires : goal.session_test-requires
unfolding old_quarter quarter
session_test-requires c = (omega arith, old-sized c.args.s _ _ (sym c.convertible_stores.ensures ∙ c.if-not-convertible_stores.false))

pub returns-in_default : goal.returns-in_default
unfolding old_quarter
returns-in_default c =
    session-refused _ _ _ (sym c.convertible_stores.ensures ∙ c.if-not-convertible_stores.false)
    (tested-not _ _ _ c.session_test.ensures c.in_default.is) refl

pub lengthen-requires : goal.lengthen-requires
unfolding old_quarter
lengthen-requires c =
    let both = lengthen-asked _ _ _ (sym c.convertible_stores.ensures ∙ c.if-not-convertible_stores.false)
    (tested-so _ _ _ c.session_test.ensures c.in-Some.is).0 in
    record { len = both.0; r_bound = both.1 }

pub returns : goal.returns
unfolding old_quarter
returns c =
    lengthened-done _ _ _ (sym c.convertible_stores.ensures ∙ c.if-not-convertible_stores.false)
    (tested-so _ _ _ c.session_test.ensures c.in-Some.is).0 refl
    c.lengthen.ensures
