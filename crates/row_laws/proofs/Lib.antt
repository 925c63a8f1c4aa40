pub mod StillImage
pub mod RowsInRuns
pub mod ValidLines
pub mod AssembledRows
pub mod StandingNames
pub mod ListedNames
pub mod ThreeLines
