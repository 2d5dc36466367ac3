-- `session_test` is the editor's test and then the cursor's visibility, and hands on the newlines that were counted.
use mathlib.Core.Path.{sym, ◌∙◌}
use native.Mathlib.Omega.{arith}
use Rattle.window.proofs.Laws.KeyCall.{texts-in, no-session, session-so, test-failed, test-passed}
use Rattle.window.proofs.calls.session_test.Goals as goal

pub returns-then-not-editor_ok : goal.returns-then-not-editor_ok
returns-then-not-editor_ok c = test-failed _ _ _ (sym (no-session _ _ _ (sym c.editor_ok.ensures ∙ c.if-not-editor_ok.true)))

pub newlines_left-above-requires : goal.newlines_left-above-requires
newlines_left-above-requires c =
    omega (arith, (texts-in _ _ _ _ _ _ (record { tabled = c.requires.1; ok = sym c.editor_ok.ensures ∙ c.if-not-editor_ok.false })).document)

pub cursor-requires : goal.cursor-requires
cursor-requires c =
    record {
      has_texts = (
        c.args.q,
        c.requires.0,
        texts-in _ _ _ _ _ _
            (record { tabled = c.requires.1; ok = sym c.editor_ok.ensures ∙ c.if-not-editor_ok.false }),
      );
      above_value = c.newlines_left-above.ensures;
    }

pub returns-then-not-is_visible : goal.returns-then-not-is_visible
returns-then-not-is_visible c =
    test-failed _ _ _ (sym
    (session-so _ _ _ (sym c.editor_ok.ensures ∙ c.if-not-editor_ok.false) _
    (c.cursor.ensures _ (texts-in _ _ _ _ _ _ (record { tabled = c.requires.1; ok = sym c.editor_ok.ensures ∙ c.if-not-editor_ok.false }))) _
    c.is_visible.ensures) ∙ c.if-not-is_visible.true)

pub returns : goal.returns
returns c =
    test-passed _ _ _ (sym
    (session-so _ _ _ (sym c.editor_ok.ensures ∙ c.if-not-editor_ok.false) _
    (c.cursor.ensures _ (texts-in _ _ _ _ _ _ (record { tabled = c.requires.1; ok = sym c.editor_ok.ensures ∙ c.if-not-editor_ok.false }))) _
    c.is_visible.ensures) ∙ c.if-not-is_visible.false)
    c.newlines_left-above.ensures
