pub mod ShownRuns
pub mod UnchangedParts
