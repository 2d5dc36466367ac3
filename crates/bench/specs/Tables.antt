-- Worked examples, computed through the definitions.
pub mod Samples
pub mod KeyNames
pub mod Blocks
