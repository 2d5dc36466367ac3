-- `sized_stores` is the definition's test.
use mathlib.Core.Path.{refl}
use Rattle.editor.specs.Rules.Bytes.{sized}
use Rattle.editor.proofs.stores.sized_stores.Goals as goal

pub returns : goal.returns
unfolding sized
returns c = refl
