-- How the contracts of this layer's functions speak, and theorems about the rules. No rule stands here.
pub mod Painter
pub mod Calls
pub mod Promise
pub mod Demands
pub mod Writing
pub mod Conversion
pub mod Unopened
