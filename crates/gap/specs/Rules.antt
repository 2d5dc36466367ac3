-- What a reader must believe, in reading order. docs/RULES.md has the same rules in prose.
pub mod Sequence
pub mod Strings
pub mod Numbers
pub mod Checks
pub mod Doc
pub mod Nearest
pub mod Lines
pub mod Indents
pub mod Layout
pub mod Decimal
pub mod Fields
pub mod LineLimits
