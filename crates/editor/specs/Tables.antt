-- Worked examples, computed through the definitions.
pub mod KeyExamples
pub mod KeyPins
pub mod QuotationPins
pub mod MarkPins
pub mod CutPins
pub mod IndentPins
pub mod LinePins
pub mod SessionPins
pub mod ConversionPins
