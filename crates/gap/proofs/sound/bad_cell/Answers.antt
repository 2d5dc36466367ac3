-- `bad_cell` is the first byte that fails the test.
use Rattle.gap.specs.Rules.Layout.{printable}
use Rattle.gap.proofs.sound.bad_cell.Goals as goal

pub returns : goal.returns
returns c = c.first_failing.ensures printable (λ b r h. h)
