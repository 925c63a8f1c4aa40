pub mod MemoryLaws
pub mod RefusalLaws
pub mod RunLaws
