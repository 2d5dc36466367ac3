pub mod Distance
pub mod DocProperties
pub mod PlaceTheorem
pub mod Flatten
pub mod Decimals
pub mod LineLimits
pub mod Pins
