-- How the contracts of this layer's functions speak. No rule stands here.
pub mod Entries
pub mod Rows
pub mod Turns
