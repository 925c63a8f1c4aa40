pub mod DirectiveKeys
pub mod NameLaws
pub mod Failures
pub mod FormLaws
pub mod Listed
