pub mod Counted
pub mod Refusals
pub mod MnemonicKeys
