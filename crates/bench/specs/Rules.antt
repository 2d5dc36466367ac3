-- What a reader must believe, in reading order. docs/RULES.md has the same rules in prose.
pub mod Names
pub mod Script
pub mod Print
pub mod Run
