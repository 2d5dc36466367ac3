-- Worked examples, computed through the definitions.
pub mod Sentence
pub mod Written
pub mod Pins
