-- `press_session` does what the plain editor says: KEY where the key is not sound, then the key and the mark through its change.
use mathlib.Core.Path.{sym, ◌∙◌, refl}
use native.Mathlib.Omega.{arith}
use Rattle.std.proofs.lemmas.Result.{err_from_is_err_and}
use Rattle.editor.specs.Rules.Bytes.{quarter, plain_of}
use Rattle.editor.specs.Rules.Keys.{key}
use Rattle.editor.proofs.Laws.Refusals.{numbered}
use Rattle.editor.proofs.Laws.Following.{refused-same, done-followed, can-follow}
use Rattle.editor.proofs.keys.press_session.Goals as goal

pub returns-then-not-sound_key-clause-edits : goal.returns-then-not-sound_key-clause-edits
unfolding key plain_of
returns-then-not-sound_key-clause-edits c = rw (sym c.sound_key.ensures ∙ c.if-not-sound_key.true)

pub returns-in_err-done-clause-edits : goal.returns-in_err-done-clause-edits
returns-in_err-done-clause-edits c =
    let ok = sym c.sound_key.ensures ∙ c.if-not-sound_key.false in
    let gone = err_from_is_err_and c.from_residual.result c.from_residual.ensures.1 in
    rw (gone.1, gone.2) (refused-same quarter _ _ c.requires _ ok c.in_err-done.ensures.edits (numbered _))

pub followed-requires : goal.followed-requires
unfolding quarter
followed-requires c =
    let ok = sym c.sound_key.ensures ∙ c.if-not-sound_key.false in can-follow quarter _ _ c.requires _ ok c.in_ok-done.ensures.edits refl (omega arith)

pub returns-clause-edits : goal.returns-clause-edits
returns-clause-edits c =
    let ok = sym c.sound_key.ensures ∙ c.if-not-sound_key.false in
    rw c.followed.ensures (done-followed quarter _ _ c.requires _ ok c.in_ok-done.ensures.edits refl)
