-- Laws of the bench program.
pub mod KeyNames
pub mod Scripts
pub mod Printed
pub mod Beginnings
pub mod Blocks
pub mod Turning
