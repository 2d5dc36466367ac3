-- What a reader must believe, in reading order. docs/KEYBOARD.md has the keys' bytes in prose.
pub mod Refusals
pub mod Keyboard
pub mod Streams
