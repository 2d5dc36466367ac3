-- `bad_byte` is the first byte that fails the test.
use Rattle.gap.specs.Rules.Layout.{allowed}
use Rattle.gap.proofs.sound.bad_byte.Goals as goal

pub returns : goal.returns
returns c = c.first_failing.ensures allowed (λ b r h. h)
