-- Worked examples, computed through the definitions.
pub mod Table
pub mod WindowPins
pub mod BytesPins
pub mod CallPins
pub mod TerminalPins
pub mod SendSamples
pub mod HostNumbers
pub mod ConversionPins
