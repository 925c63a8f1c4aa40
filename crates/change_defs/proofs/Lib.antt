pub mod Lead
pub mod RunLead
