-- The types and cases that the definitions of this layer speak with, passed on in one place.
pub use Rattle.std.specs.Prelude.{Option, Some, None, Result, Ok, Err}
pub use Rattle.std.proofs.Common.{ControlFlow, Continue, Break}
pub use Rattle.gap.specs.declared.Direction.{Direction}
pub use Rattle.gap.specs.declared.Direction.TheVariants.{Left, Right}
pub use Rattle.editor.specs.declared.Action.{Action}
pub use Rattle.editor.specs.declared.Action.TheVariants.{Move, Delete}
pub use Rattle.editor.specs.declared.Place.{Place}
pub use Rattle.editor.specs.declared.Place.TheVariants.{Character, Word, LineBeginning, LineEnding, Document}
pub use Rattle.editor.specs.declared.Key.{Key}
pub use Rattle.editor.specs.declared.Key.TheVariants.{Insert, Function, Recall, Quote, Find, Replace, Mark, Cut, Paste, Newline, Tab}
pub use Rattle.bench.specs.declared.Header.{Header}
pub use Rattle.bench.specs.declared.Broken.{Broken}
pub use Rattle.bench.specs.declared.Reading.{Reading}
pub use Rattle.bench.specs.declared.Reading.TheVariants.{Pressed, Finished, Unknown}
