-- The definitions of the editor layer: the words they speak with, the rules, the wording of contracts, tables of examples.
pub mod Words
pub mod Rules
pub mod Wording
pub mod Tables
