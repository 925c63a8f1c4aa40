pub mod Scans
pub mod DigitLaws
pub mod OperandLines
pub mod LineTexts
