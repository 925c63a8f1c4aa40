pub mod Further
mod PlacedLines
mod RowLaws
mod ReadLaws
mod SecondPassLaws
mod PassLaws
mod ListingLaws
