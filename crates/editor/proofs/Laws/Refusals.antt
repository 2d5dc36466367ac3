-- Refusals by their numbers.
use mathlib.Core.Path.{◌≡◌}
use Prim.Native.Nat.{◌<◌}
use native.Mathlib.Omega.{arith}
use Rattle.editor.specs.declared.refusals.Refusal.{Refusal}
use Rattle.editor.specs.declared.refusals.Refusal.TheVariants as refusals
use Rattle.editor.specs.Rules.Refusals.{number}

-- None has the number 0, which says that a call was carried out.
pub positive : (e : Refusal) → 0 < number e
positive refusals.Size = omega arith
positive refusals.Long = omega arith
positive refusals.Text = omega arith
positive refusals.Session = omega arith
positive refusals.Key = omega arith
positive refusals.Full = omega arith
positive refusals.Room = omega arith
positive refusals.Line = omega arith

pub numbered : (e : Refusal) → ¬ (number e ≡ 0)
numbered e none = absurd (omega (arith, positive e, none))
