pub mod Building
pub mod Interpreter
pub mod Booting
