pub mod ByteLaws
pub mod WordLaws
pub mod OverflowLaws
pub mod ShiftLaws
pub mod DivideLaws
pub mod StatusLaws
pub mod InstructionLaws
pub mod StepRows
