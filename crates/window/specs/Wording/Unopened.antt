-- How promises speak of a refused opening: its refusal, and the place of TEXT and LINE, else 0.
use Rattle.std.specs.Prelude.{ℕ}
use Rattle.editor.specs.declared.refusals.Refusal.{Refusal}
use Rattle.editor.specs.declared.refusals.Refusal.TheVariants as refusals
use Rattle.window.specs.declared.Unopened.{Unopened}
use Rattle.window.specs.declared.Unopened.TheVariants.{Size, Long, Text, Line}

abbrev pub refusal_in : Unopened → Refusal
refusal_in Size = refusals.Size
refusal_in Long = refusals.Long
refusal_in (Text place) = refusals.Text
refusal_in (Line place) = refusals.Line

abbrev pub place_in : Unopened → ℕ
place_in Size = 0
place_in Long = 0
place_in (Text place) = place
place_in (Line place) = place
