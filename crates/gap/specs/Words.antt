-- The types and cases that the definitions of this layer speak with, passed on in one place.
pub use Rattle.gap.specs.declared.Direction.{Direction}
pub use Rattle.gap.specs.declared.Direction.TheVariants.{Left, Right}
