-- `spaced_side`: refused where the byte and its spaces do not fit or make a line too long, and else landed with so many bytes more, whatever the
-- recall text.
use mathlib.Core.Path.{sym, ◌∙◌, refl}
use Rattle.editor.proofs.Laws.SideEdits.{spaced-refused, spaced-long, spaced-done}
use Rattle.editor.proofs.indents.spaced_side.Goals as goal

pub returns-then-text-n : goal.returns-then-text-n
returns-then-text-n c = λ recall on. spaced-refused on _ _ refl c.if-text-n.true

pub returns-then-not-run_fits : goal.returns-then-not-run_fits
returns-then-not-run_fits c =
    λ recall on. spaced-long on _ _ refl c.if-text-n.false (sym (rw c.of.ensures.holds at c.run_fits.ensures) ∙ c.if-not-run_fits.true)

pub returns : goal.returns
returns c =
    λ recall on. spaced-done on _ _ refl c.went.ensures c.if-text-n.false
    (sym (rw c.of.ensures.holds at c.run_fits.ensures) ∙ c.if-not-run_fits.false) c.insert_spaced.ensures
