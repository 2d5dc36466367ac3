-- `press` is the key call: SIZE, SESSION, a refusal of the editor's, or its outcome shown.
use mathlib.Core.Path.{sym, ◌∙◌, refl}
use native.Mathlib.Omega.{arith}
use Rattle.std.proofs.lemmas.Result.{err_from_is_err_and}
use Rattle.editor.specs.Rules.Bytes.{quarter}
use Rattle.editor.proofs.Laws.Refusals.{positive}
use Rattle.window.specs.Wording.Calls.{lent_as}
use Rattle.window.proofs.Laws.KeyCall.{texts-held, refused-size, refused-session, press-refused, press-done, session-sound}
use Rattle.window.proofs.Laws.KeyCall.{tested-session, tested-none, counted-as}
use Rattle.window.proofs.Laws.Views.{tabled-facts}
use Rattle.window.proofs.calls.press.Goals as goal

pub returns-then-not-lent_tabled-clause-answers : goal.returns-then-not-lent_tabled-clause-answers
returns-then-not-lent_tabled-clause-answers c = refused-size _ _ _ (sym c.lent_tabled.ensures ∙ c.if-not-lent_tabled.true) _ refl

pub lent_test-requires : goal.lent_test-requires
lent_test-requires c = (tabled-facts _ _ _ (sym c.lent_tabled.ensures ∙ c.if-not-lent_tabled.false)).stores

pub returns-in_default-clause-answers : goal.returns-in_default-clause-answers
unfolding quarter
returns-in_default-clause-answers c =
    refused-session _ _ _ (sym c.lent_tabled.ensures ∙ c.if-not-lent_tabled.false) (tested-none _ _ c.lent_test.ensures c.in_default.is) _
    refl

pub press_session-requires : goal.press_session-requires
unfolding quarter
press_session-requires c =
    (session-sound c.args.s (lent_as c.args.lent.now c.args.screen.now)
    (sym c.lent_tabled.ensures ∙ c.if-not-lent_tabled.false) (tested-session _ _ c.lent_test.ensures c.in-Some.is).0)

pub returns-in_err-done-clause-answers : goal.returns-in_err-done-clause-answers
unfolding quarter
returns-in_err-done-clause-answers c =
    let gone = err_from_is_err_and c.from_residual.result c.from_residual.ensures.1 in
    rw (gone.1, gone.2)
    (press-refused c.args.s c.args.k (lent_as c.args.lent.now c.args.screen.now)
    (sym c.lent_tabled.ensures ∙ c.if-not-lent_tabled.false) (tested-session _ _ c.lent_test.ensures c.in-Some.is).0 _ _
    c.in_err-done.ensures.edits (positive _) _
    refl)

pub newlines_now-below-requires : goal.newlines_now-below-requires
unfolding quarter
newlines_now-below-requires c =
    let known = (press-done c.args.s c.args.k (lent_as c.args.lent.now c.args.screen.now)
    (sym c.lent_tabled.ensures ∙ c.if-not-lent_tabled.false) (tested-session _ _ c.lent_test.ensures c.in-Some.is).0 _ _
    c.in_ok-done.ensures.edits (omega arith)) in
    let texts = texts-held _ _ _ _ _ known.sound in
    record {
      l_in_bounds = omega (arith, texts.document);
      left_counted = λ other. counted-as (tested-session _ _ c.lent_test.ensures c.in-Some.is).1 (known.left other);
    }

pub show-requires : goal.show-requires
unfolding quarter
show-requires c =
    let known = (press-done c.args.s c.args.k (lent_as c.args.lent.now c.args.screen.now)
    (sym c.lent_tabled.ensures ∙ c.if-not-lent_tabled.false) (tested-session _ _ c.lent_test.ensures c.in-Some.is).0 _ _
    c.in_ok-done.ensures.edits (omega arith)) in
    let facts = tabled-facts _ _ _ known.fit in record {
      texts = texts-held _ _ _ _ _ known.sound;
      above_value = c.newlines_now-below.ensures;
      w_value = (facts.frame, facts.long);
    }

pub returns-clause-answers : goal.returns-clause-answers
unfolding quarter
returns-clause-answers c =
    let known = (press-done c.args.s c.args.k (lent_as c.args.lent.now c.args.screen.now)
    (sym c.lent_tabled.ensures ∙ c.if-not-lent_tabled.false) (tested-session _ _ c.lent_test.ensures c.in-Some.is).0 _ _
    c.in_ok-done.ensures.edits (omega arith)) in
    c.show.ensures.shows _ _ known.sound known.fit ∙ known.shows
