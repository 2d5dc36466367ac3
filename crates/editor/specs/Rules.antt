-- What a reader must believe, in reading order. docs/RULES.md has the same rules in prose.
pub mod Refusals
pub mod Places
pub mod Passages
pub mod Marks
pub mod Plain
pub mod LongLines
pub mod Indents
pub mod Keys
pub mod Bytes
pub mod Conversion
