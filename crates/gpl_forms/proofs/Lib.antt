mod TableLaws
pub mod SizeLaws
