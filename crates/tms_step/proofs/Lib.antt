pub mod PutBack
pub mod Results
pub mod PortLast
pub mod RunEnds
pub mod Jumps
