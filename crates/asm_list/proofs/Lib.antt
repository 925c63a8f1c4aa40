mod ListingLaws
mod RowLaws
mod ShownLaws
