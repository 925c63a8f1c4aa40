pub mod Paths
pub mod Numbers
pub mod Shifts
pub mod ShiftRows
pub mod Dispatch
