pub mod Operations
pub mod Operands
pub mod Forms
pub mod FirstChecks
pub mod SecondChecks
pub mod Growing
pub mod Printed
