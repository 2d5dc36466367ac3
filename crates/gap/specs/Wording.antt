-- How the contracts of this layer's functions speak. No rule stands here.
pub mod Written
pub mod LinesAfter
pub mod Closures
pub mod Sides
pub mod Views
