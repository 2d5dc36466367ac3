-- What a reader must believe, in reading order. docs/RULES.md has the same rules in prose.
pub mod Window
pub mod Rows
pub mod Core
pub mod Conversion
pub mod Refusals
pub mod Terminal
pub mod Sequences
pub mod Sending
pub mod Machine
pub mod Host
pub mod HostRun
pub mod HostConversion
pub mod Receiving
