pub mod CodeLaws
pub mod BytesAtLaws
pub mod OperandLaws
pub mod InstrLaws
pub mod ReadLaws
pub mod ShortLaws
pub mod MeaningLaws
pub mod ImageLaws
mod OperationRows
