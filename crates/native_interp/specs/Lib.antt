pub mod TableWords
pub mod RoutineWords
pub mod OperationWords
pub mod FlowWords
pub mod CopyWords
pub mod Words
pub mod Entries
pub mod Source
