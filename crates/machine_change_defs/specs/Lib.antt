pub mod Seen
pub mod Changes
pub mod Text
pub mod Lines
pub mod Reports
pub mod Laws
