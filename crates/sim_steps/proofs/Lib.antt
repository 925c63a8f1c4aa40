pub mod Paths
pub mod Families
pub mod RefusedCodes
pub mod Turns
pub mod Boots
pub mod FirstState
pub mod TurnRuns
