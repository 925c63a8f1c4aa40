pub mod Directives
pub mod Statements
pub mod Locations
pub mod FirstChecks
pub mod SecondChecks
pub mod Memory
pub mod Modules
pub mod Growing
