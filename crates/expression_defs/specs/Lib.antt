pub mod Tokens
pub mod TokenLaw
pub mod Expression
pub mod Symbols
pub mod Growing
pub mod Layout
