pub mod SessionEnds
pub mod Built
pub mod FurtherLines
pub mod Placed
