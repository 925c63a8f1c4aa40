pub mod Asked
pub mod FileProgram
pub mod Answered
pub mod Laws
