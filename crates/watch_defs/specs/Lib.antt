pub mod Items
pub mod Hits
pub mod Laws
pub mod RangeLaw
