pub mod Answered
pub mod Gsteps
pub mod Listed
pub mod Debug
pub mod Laws
pub mod AssembledSteps
pub mod Written
pub mod Ends
