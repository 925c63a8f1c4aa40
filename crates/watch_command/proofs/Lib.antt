pub mod WordLaws
pub mod Reports
