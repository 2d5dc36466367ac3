-- How the contracts of this layer's functions speak, and theorems about the rules. No rule stands here.
pub mod Promise
pub mod Stores
pub mod Marks
pub mod Searches
pub mod Neighbours
pub mod Recalling
pub mod Conversion
