pub mod Dumps
pub mod ShownPrograms
pub mod Decimals
pub mod Shown
