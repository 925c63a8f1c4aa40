pub mod OneReport
pub mod GromBytes
pub mod ListedInputs
pub mod ListedBytes
pub mod ListedWords
pub mod EnteredWords
pub mod Fronts
pub mod ListedFiles
pub mod Ranges
mod CommandRows
mod UsageRows
