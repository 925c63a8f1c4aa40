pub mod NameLaws
pub mod ReadingLaws
pub mod AsmLaws
pub mod LinkLaws
pub mod ModuleLists
pub mod AskedLaws
