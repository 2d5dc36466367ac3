-- Worked examples, computed through the definitions.
pub mod KeyboardPins
pub mod StreamPins
