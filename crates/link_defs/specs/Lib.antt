pub mod Causes
pub mod Placing
pub mod First
pub mod Chains
pub mod LinkedMemory
pub mod Laws
