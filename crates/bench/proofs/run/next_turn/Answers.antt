-- `next_turn` does what the line at hand says.
use mathlib.Core.Path.{sym, ◌∙◌}
use Rattle.bench.proofs.Laws.Turning.{next-finished, onward-pressed}
use Rattle.bench.proofs.run.next_turn.Goals as goal

pub returns-in-Pressed-clause-onward : goal.returns-in-Pressed-clause-onward
returns-in-Pressed-clause-onward c = onward-pressed _ c.args.from _ _ (sym c.in-Pressed.is ∙ c.reading_at.ensures) _ c.press_turn.ensures.onward

pub returns-in-Finished-clause-does : goal.returns-in-Finished-clause-does
returns-in-Finished-clause-does c = next-finished _ c.args.from _ (sym c.in-Finished.is ∙ c.reading_at.ensures) _
