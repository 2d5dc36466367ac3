pub mod Names
pub mod Lines
pub mod Blocks
pub mod Samples
pub mod Turns
pub mod Pins
