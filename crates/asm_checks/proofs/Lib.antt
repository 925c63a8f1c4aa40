pub mod DirectiveKeys
pub mod Failures
pub mod PaddedNames
pub mod Listed
pub mod Instructions
pub mod Labels
