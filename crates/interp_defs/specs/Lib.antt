pub mod Interpreter
pub mod Match
pub mod Runs
pub mod Boot
pub mod Turns
pub mod Turned
pub mod Programs
