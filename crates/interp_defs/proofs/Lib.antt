pub mod OneBoot
pub mod OneMachine
pub mod Machines
