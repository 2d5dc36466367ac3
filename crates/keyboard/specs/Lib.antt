-- The definitions of the keyboard layer: the words they speak with, the rules, the wording of theorems, tables of examples.
pub mod Words
pub mod Rules
pub mod Wording
pub mod Tables
